-- What the slide over strips comes to for the strips of pixel sets, in every direction: it goes to the first shift at which the placed sets conflict.
-- Whether they do depends on the difference of their corners only, so that sliding the second piece on is sliding the first one back.
-- Assumes nothing.
use Rattle.list_laws.proofs.Kit.{◌∙◌, ◌≡◌, ap, fun_ext, sym, Bool, ◌-◌, ◌≤◌, ℕ, arith}
use Rattle.model.specs.Bounded.{first_from}
use Rattle.model.specs.Piece.{Point, Shape, along, across, point, shift}
use Rattle.model.specs.Overlap.{conflict}
use Rattle.model.specs.declared.Direction.{Direction}
use Rattle.overlap_laws.specs.Grown.{grown}
use Rattle.overlap_laws.proofs.Grown.{conflict_grown}
use Rattle.overlap_laws.proofs.Share.{along_point, across_point, along_shift, across_shift, same_difference, share_difference}
use Rattle.pair_overlap.specs.Meet.{shifted, stretches_meet}
use Rattle.pair_overlap.proofs.Shapes.{entries, seen, entries_conflict, seen_shift}
use Rattle.pair_slide.specs.Meeting.{meets_below}

module _ (g : ℕ) (d : Direction) (s : Shape) (u : Point) (t : Shape) (v : Point) where
  -- the strips of two sets meet at k exactly when the sets conflict once the second is shifted by k
  meets_conflict : (k : ℕ) → stretches_meet g (entries d s) (seen d u) (entries d t) (shifted k (seen d v)) ≡ conflict g s u t (shift d k v)
  meets_conflict k =
      ap (stretches_meet g (entries d s) (seen d u) (entries d t)) (seen_shift d k v) ∙ entries_conflict g d s u t (shift d k v)

  -- the slide goes to the first shift at which they conflict
  pub entries_meets : (bound : ℕ)
      → meets_below g (entries d s) (seen d u) (entries d t) (seen d v) bound ≡ first_from (λ k. conflict g s u t (shift d k v)) 0 bound
  unfolding meets_below
  entries_meets bound = ap (λ (f : ℕ → Bool). first_from f 0 bound) (fun_ext meets_conflict)

  -- the second piece shifted by k conflicts with the first exactly when it does where it is, the first shifted back by k
  pub slid_back : (k : ℕ) → k ≤ along d u → conflict g s u t (shift d k v) ≡ conflict g s (point d (along d u - k) (across d u)) t v
  slid_back k h =
      let w : Point = point d (along d u - k) (across d u) in
      conflict_grown g s u t (shift d k v)
      ∙ share_difference (grown g s) u (grown g t) (shift d k v) w v
      (same_difference d u (shift d k v) w v
      (omega (arith, along_shift d k v, along_point d (along d u - k) (across d u)))
      (omega (arith, across_shift d k v, across_point d (along d u - k) (across d u))))
      ∙ sym (conflict_grown g s w t v)
