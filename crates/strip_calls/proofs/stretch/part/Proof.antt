-- `strip_calls::stretch::part` meets its contract. Assumes nothing.
use Rattle.list_laws.proofs.Kit.{◌≡◌, ◌+◌, ◌≤◌, suc, arith, get_or, length, rules}
use Rattle.model.specs.Store.{stretch_in}
use Rattle.strip_calls.proofs.stretch.part.Statement.{statement}
use Rattle.strip_calls.proofs.stretch.part.Tie as tie

-- the piece's start is not past the next one
ordered : (c : tie.Start) → get_or c.args.starts.now c.args.piece 0 ≤ get_or c.args.starts.now (c.args.piece + 1) 0
ordered c = let e : c.args.piece + 1 ≡ suc c.args.piece = omega arith in rw e c.requires.order

overflow_cast-to : tie.Need-overflow_cast-to
overflow_cast-to c = omega (arith, c.shared_slice_known-2-1.given (c.args.piece + 1))

slice_bounds-result-count : tie.Need-slice_bounds-result-count
slice_bounds-result-count c = ordered c.before.before

slice_bounds-result-start : tie.Need-slice_bounds-result-start
slice_bounds-result-start c = ordered c.before.before

slice_bounds-result-end : tie.Need-slice_bounds-result-end
slice_bounds-result-end c =
    let a = c.args in
    let e : a.piece + 1 ≡ suc a.piece = omega arith in
    let h : get_or a.starts.now (a.piece + 1) 0 ≤ length a.strips.now = rw e c.requires.within in
    h

returns : tie.Need-returns
unfolding stretch_in
returns c =
    let at-start : tie.Start = search in
    let e : at-start.args.piece + 1 ≡ suc at-start.args.piece = omega arith in rw e

pub part_spec : {M : Type 1} → statement M
part_spec =
    tie.close (tie.spec
    (search rules) (search rules) (search rules) (search rules) (search rules) (search rules) overflow_cast-to (search rules)
    slice_bounds-result-count slice_bounds-result-start slice_bounds-result-end returns)
