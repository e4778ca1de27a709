-- The layout at hand has room for every piece, and begins as the lent layout.
use Rattle.list_laws.proofs.Kit.{◌∙◌, ◌≡◌, sym, List, [], ◌∷◌, ◌≤◌, ℕ, length, replicate, take}
use Rattle.list_laws.proofs.Lists.{repeated_front}
use Rattle.model.specs.Lent.{lent_by, piece_bound}
use Rattle.job_laws.proofs.Checked.{facts}
use Rattle.run_memory.proofs.memory.TermsPlan.carry_out.Goals as goal

-- as much of a fresh array as is asked for
fresh_part : (n : ℕ) → n ≤ piece_bound → length (take n (replicate {A = List ℕ} 64 (0 ∷ 0 ∷ 0 ∷ []))) ≡ n
fresh_part n l = repeated_front n 64 (0 ∷ 0 ∷ 0 ∷ []) l

pub slice_bounds-present-end : goal.slice_bounds-present-end
slice_bounds-present-end c =
    let a = c.args in
    (facts (lent_by a.run.size a.table.now a.pixels.now) c.requires.given.laid.well).few_pieces

pub slice_bounds-copy-end : goal.slice_bounds-copy-end
slice_bounds-copy-end c =
    let a = c.args in
    sym (fresh_part a.run.size.count (facts (lent_by a.run.size a.table.now a.pixels.now) c.requires.given.laid.well).few_pieces)

pub copy-requires : goal.copy-requires
copy-requires c =
    let a = c.args in
    fresh_part a.run.size.count (facts (lent_by a.run.size a.table.now a.pixels.now) c.requires.given.laid.well).few_pieces
    ∙ sym c.requires.given.laid.whole
