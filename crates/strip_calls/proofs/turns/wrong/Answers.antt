-- `strip_calls::turns::wrong`: a list that is not n long, or what `any` answers. Assumes nothing.
use Rattle.list_laws.proofs.Kit.{◌∙◌, ap, sym, not, ◌||◌, ℕ, eqb, get_or, length, rules, eq-eqb, ne_eqb}
use borrow.Author.Tests.{tests}
use Rattle.list_laws.proofs.Ranges.{any_over}
use Rattle.list_laws.proofs.Tests.{or_left}
use Rattle.model.specs.Bounded.{any_below}
use Rattle.model.specs.Lent.{lent_by, job_of}
use Rattle.model.specs.Calls.{allowed_degrees, turn_list_wrong}
use Rattle.strip_calls.proofs.turns.wrong.Goals as goal

pub returns-then-turns-size : goal.returns-then-turns-size
unfolding turn_list_wrong job_of
returns-then-turns-size c = λ pixels.
    let a = c.args in sym (or_left (not (eqb (length a.turns.now) a.size.count)) _ (ap not (ne_eqb _ _ c.if-turns-size.true)))

pub returns : goal.returns
unfolding turn_list_wrong job_of
returns c = λ pixels.
    let a = c.args in
    let wrong = λ (k : ℕ). not (allowed_degrees (job_of (lent_by a.size a.table.now pixels)) k (get_or a.turns.now k 0)) in
    any_over wrong a.size.count _ _ _ c.any.ensures.ran (cc) (λ x b q k. search (rules, tests))
    ∙ ap (λ b. not b || any_below a.size.count wrong) (sym (eq-eqb _ _ c.if-turns-size.false))
