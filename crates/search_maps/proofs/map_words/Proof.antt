-- `search_maps::map_words` meets its contract: the sides are small. Assumes nothing.
use Rattle.list_laws.proofs.Kit.{◌≡◌, ap, ◌*◌, ◌+◌, ◌≤◌, ℕ, arith, rules}
use Rattle.search_maps.specs.Map.{row_width}
use Rattle.search_maps.proofs.Fitting.{rows_small_lem}
use Rattle.search_maps.proofs.map_words.Statement.{statement}
use Rattle.search_maps.proofs.map_words.Tie as tie

-- the product is small
product : (c : tie.After-row_width)
    →
    let at-start : tie.Start = search in
    let z = at-start.args.sides in
    ((z.moved_across + z.standing_across + 1) * c.row_width.result ≤ 543 * 542)
    × ((z.moved_across + z.standing_across + 1) * c.row_width.result ≡ (z.moved_across + z.standing_across + 1) * row_width z)
product c =
    let at-start : tie.Start = search in
    let z = at-start.args.sides in
    let f = at-start.requires in
    let n : ℕ = z.moved_across + z.standing_across + 1 in
    let e : n * c.row_width.result ≡ n * row_width z = ap (λ (k : ℕ). n * k) c.row_width.ensures in
    let h = rows_small_lem z f n (omega (arith, f.moved_across.high, f.standing_across.high)) in
    (omega arith, e)

overflow_mul-result : tie.Need-overflow_mul-result
overflow_mul-result c = let h = product c in omega arith

overflow_add-result-3 : tie.Need-overflow_add-result-3
overflow_add-result-3 c = let h = product c in omega arith

returns : tie.Need-returns
returns c = let h = (product c).1 in omega arith

pub map_words_spec : {M : Type 1} → statement M
map_words_spec = tie.close (tie.spec
    (search rules) (search rules) (search rules) overflow_mul-result overflow_add-result-3 returns)
