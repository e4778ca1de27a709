-- The line of two pieces is that of them exchanged, backwards: a penalty does not tell which of the two moved. Assumes nothing.
use Rattle.list_laws.proofs.Kit.{◌∙◌, ◌≡◌, sym, ⊎_elim, inl, inr, ◌+◌, ◌-◌, ◌<◌, ◌≤◌, ℕ, arith}
use Rattle.list_laws.proofs.Numbers.{below_or}
use Rattle.model.specs.Piece.{Shape, along, across, point, extent, other}
use Rattle.model.specs.declared.Direction.{Direction}
use Rattle.overlap_laws.specs.Grown.{wide_bound}
use Rattle.overlap_laws.proofs.Share.{along_point, across_point}
use Rattle.overlap_laws.proofs.Penalty.{penalty_symmetric}
use Rattle.search_laws.specs.Lines.{middle, line_places, line_penalty}
use Rattle.search_map_lines.proofs.Penalties.{far_penalty}
use Rattle.search_lines.proofs.Placed.{line_penalty_at}

module _ (d : Direction) (s t : Shape) (o k : ℕ) (some : 1 ≤ extent d s) (others : 1 ≤ extent d t) (there : k < line_places d s t) where
  -- the place that is as far from the line's end
  abbrev mirrored : ℕ
  mirrored = line_places d s t - 1 - k

  -- where the mirrored offset is not below 0, the corners differ alike
  near : o ≤ middle + middle → line_penalty d t s (middle + middle - o) mirrored ≡ line_penalty d s t o k
  unfolding line_penalty
  near l =
      let a : along d (point d mirrored middle) ≡ mirrored = along_point d mirrored middle in
      let b : across d (point d mirrored middle) ≡ middle = across_point d mirrored middle in
      let c : along d (point d (extent d t - 1) (middle + middle - o)) ≡ extent d t - 1 = along_point d (extent d t - 1) (middle + middle - o) in
      let e : across d (point d (extent d t - 1) (middle + middle - o)) ≡ middle + middle - o = across_point d (extent d t - 1) (middle + middle - o) in
      penalty_symmetric t (point d mirrored middle) s (point d (extent d t - 1) (middle + middle - o))
      ∙ line_penalty_at d s (point d (extent d t - 1) (middle + middle - o)) t (point d mirrored middle) o k (omega arith) (omega arith)

  -- elsewhere the boxes do not meet
  far : extent (other d) s ≤ wide_bound → middle + middle < o → line_penalty d t s (middle + middle - o) mirrored ≡ line_penalty d s t o k
  far small l = far_penalty d t s (middle + middle - o) mirrored (inr (omega arith)) ∙ sym (far_penalty d s t o k (inl (omega arith)))

  -- so the penalties are the same
  pub exchanged_penalty : extent (other d) s ≤ wide_bound → line_penalty d t s (middle + middle - o) mirrored ≡ line_penalty d s t o k
  exchanged_penalty small = ⊎_elim (λ (h : middle + middle < o). far small h) (λ (h : o ≤ middle + middle). near h) (below_or (middle + middle) o)
