-- `causes::some_number_wrong` meets its contract: by the test of the weights. Assumes nothing.
use Rattle.list_laws.proofs.Kit.{◌∙◌, sym, rules}
use Rattle.causes.proofs.some_number_wrong.Statement.{statement}
use Rattle.causes.proofs.some_number_wrong.Tie as tie

returns-then-some_weight_wrong : tie.Need-returns-then-some_weight_wrong
returns-then-some_weight_wrong c =
    let asked : tie.After-some_weight_wrong = search in
    rw (sym asked.some_weight_wrong.ensures ∙ c.if-some_weight_wrong.true)

returns : tie.Need-returns
returns c =
    let asked : tie.After-some_weight_wrong = search in
    rw (sym asked.some_weight_wrong.ensures ∙ c.if-some_weight_wrong.false)

pub some_number_wrong_spec : {M : Type 1} → statement M
some_number_wrong_spec = tie.close (tie.spec
    (search rules) returns-then-some_weight_wrong returns)
