-- `search_line_sums::four_below` meets its contract: the four tests, asked one after the other. Assumes nothing.
use Rattle.list_laws.proofs.Kit.{◌≡◌, ap, ◌+◌, ℕ, arith, get_or, ltb, rules}
use Rattle.search_line_sums.proofs.Scans.{any_four, below_at}
use Rattle.search_line_sums.proofs.four_below.Statement.{statement}
use Rattle.search_line_sums.proofs.four_below.Tie as tie

returns : tie.Need-returns
returns c =
    let at-start : tie.Start = search in
    let a = at-start.args in
    let e : a.at ≡ a.at + 0 = omega arith in
    any_four (below_at a.sums.now a.bound a.at) _ (ap (λ (i : ℕ). ltb (get_or a.sums.now i 0) a.bound) e)

pub four_below_spec : {M : Type 1} → statement M
four_below_spec =
    tie.close (tie.spec
    (search rules) (search rules) (search rules) (search rules) (search rules) (search rules) (search rules) (search rules) (search rules)
    (search rules) (search rules) returns)
