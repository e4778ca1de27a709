-- `search_maps::mark_words` meets its contract: the sides are small. Assumes nothing.
use Rattle.list_laws.proofs.Kit.{◌≡◌, ap, ◌*◌, ◌≤◌, ℕ, arith, rules}
use Rattle.search_maps.specs.Map.{row_width}
use Rattle.search_maps.proofs.Fitting.{marks_small}
use Rattle.search_maps.proofs.mark_words.Statement.{statement}
use Rattle.search_maps.proofs.mark_words.Tie as tie

-- the product is small
product : (c : tie.After-row_width)
    →
    let at-start : tie.Start = search in
    (at-start.args.sides.moved_across * c.row_width.result ≤ 271 * 542)
    × (at-start.args.sides.moved_across * c.row_width.result ≡ at-start.args.sides.moved_across * row_width at-start.args.sides)
product c =
    let at-start : tie.Start = search in
    let z = at-start.args.sides in
    let e : z.moved_across * c.row_width.result ≡ z.moved_across * row_width z =
    ap (λ (n : ℕ). z.moved_across * n) c.row_width.ensures in
    let h = marks_small z at-start.requires in
    (omega arith, e)

overflow_mul-result : tie.Need-overflow_mul-result
overflow_mul-result c = let at-row-width : tie.After-row_width = search in let h = product at-row-width in omega arith

overflow_add-result : tie.Need-overflow_add-result
overflow_add-result c = let at-row-width : tie.After-row_width = search in let h = product at-row-width in omega arith

returns : tie.Need-returns
returns c = let at-row-width : tie.After-row_width = search in let h = (product at-row-width).1 in omega arith

pub mark_words_spec : {M : Type 1} → statement M
mark_words_spec = tie.close (tie.spec
    (search rules) overflow_mul-result overflow_add-result returns)
