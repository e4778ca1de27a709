-- `strip_check::on_line`: what `any` answers, an entry's line being that of the strip read from it. Assumes nothing.
use Rattle.list_laws.proofs.Kit.{◌≡◌, ap, List, [], ℕ, eqb, get_or, rules}
use borrow.Author.Tests.{tests}
use Rattle.list_laws.proofs.Ranges.{any_over}
use Rattle.model.specs.Strip.{Strip}
use Rattle.strip_check.specs.Check.{strip_in, ReadOf}
use Rattle.strip_check.specs.declared.Strip.{Strip as ReadStrip}
use Rattle.strip_check.proofs.Reading.{read_is}
use Rattle.strip_check.proofs.on_line.Goals as goal

line_read : (es : List (List ℕ)) (i line : ℕ) {t : ReadStrip} → ReadOf (get_or es i []) t → eqb t.line line ≡ eqb (strip_in es i).line line
line_read es i line r = ap (λ (s : Strip). eqb s.line line) (read_is r)

pub returns : goal.returns
returns c =
    let a = c.args in
    any_over (λ i. eqb (strip_in a.strips.now i).line a.line) _ _ _ _ c.any.ensures.ran (cc) (λ x b q k. search (rules, tests, line_read))
