-- `strip_check::at_place`: what `any` answers, an entry reaching as far as the strip read from it. Assumes nothing.
use Rattle.list_laws.proofs.Kit.{◌≡◌, ap, List, [], ℕ, get_or, rules}
use borrow.Author.Tests.{tests}
use Rattle.list_laws.proofs.Ranges.{any_over}
use Rattle.strip_check.specs.Check.{as_strip, strip_in, reaches, ReadOf}
use Rattle.strip_check.specs.declared.Strip.{Strip as ReadStrip}
use Rattle.strip_check.proofs.Reading.{read_is}
use Rattle.strip_check.proofs.at_place.Goals as goal

reach_read : (es : List (List ℕ)) (i place : ℕ) {t : ReadStrip} → ReadOf (get_or es i []) t
    → reaches place (as_strip t) ≡ reaches place (strip_in es i)
reach_read es i place r = ap (reaches place) (read_is r)

pub returns : goal.returns
returns c =
    let a = c.args in
    any_over (λ i. reaches a.place (strip_in a.strips.now i)) _ _ _ _ c.any.ensures.ran (cc) (λ x b q k. search (rules, tests, reach_read))
