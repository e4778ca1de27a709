-- `layout_preview_calls::figures_moved` meets its contract: an array of 64 entries has room for the copy. Assumes nothing.
use Rattle.list_laws.proofs.Kit.{◌≡◌, sym, List, [], ◌∷◌, ◌≤◌, ℕ, length, replicate, take}
use Rattle.list_laws.proofs.Lists.{repeated_front}
use Rattle.model.specs.Lent.{lent_by}
use Rattle.job_laws.proofs.Checked.{facts}
use Rattle.layout_preview_calls.proofs.figures_moved.Statement.{statement}
use Rattle.layout_preview_calls.proofs.figures_moved.Tie as tie

-- the lent job has at most 64 pieces
few : (s : tie.Start) → s.args.size.count ≤ 64
few s = (facts (lent_by s.args.size s.args.table.now s.args.pixels.now) s.requires.0.well).few_pieces

-- a fresh array, and as much of it as there are pieces
abbrev fresh : List (List ℕ)
fresh = replicate 64 (0 ∷ 0 ∷ 0 ∷ [])

fresh_part : (n : ℕ) → n ≤ 64 → length (take n fresh) ≡ n
fresh_part n l = repeated_front n 64 (0 ∷ 0 ∷ 0 ∷ []) l

slice_bounds-moved-end : tie.Need-slice_bounds-moved-end
slice_bounds-moved-end c = let s : tie.Start = search in few s

slice_bounds-figures_on-end : tie.Need-slice_bounds-figures_on-end
slice_bounds-figures_on-end c = let s : tie.Start = search in sym (fresh_part s.args.size.count (few s))

figures_on-requires : tie.Need-figures_on-requires
figures_on-requires c κs =
    let s : tie.Start = search in
    (s.requires.0, (s.requires.1.0, (s.requires.1.1, fresh_part s.args.size.count (few s))))

returns : tie.Need-returns
returns c = let measured : tie.After-figures_on = search in measured.figures_on.ensures

pub figures_moved_spec : {M : Type 1} → statement M
figures_moved_spec = tie.close (tie.spec
    slice_bounds-moved-end slice_bounds-figures_on-end figures_on-requires returns)
