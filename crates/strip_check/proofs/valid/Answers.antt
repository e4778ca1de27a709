-- `strip_check::valid`: what `all` answers, an entry fitting as the strip read from it does. Assumes nothing.
use Rattle.list_laws.proofs.Kit.{◌≡◌, ap, List, [], ℕ, get_or, rules}
use borrow.Author.Tests.{tests}
use Rattle.list_laws.proofs.Ranges.{all_over}
use Rattle.strip_check.specs.Check.{as_strip, strip_in, fits_in, well_at, ReadOf}
use Rattle.strip_check.specs.declared.Strip.{Strip as ReadStrip}
use Rattle.strip_check.proofs.Reading.{read_is}
use Rattle.strip_check.proofs.valid.Goals as goal

fit_read : (es : List (List ℕ)) (i length lines : ℕ) {t : ReadStrip} → ReadOf (get_or es i []) t
    → fits_in length lines (as_strip t) ≡ fits_in length lines (strip_in es i)
fit_read es i length lines r = ap (fits_in length lines) (read_is r)

pub returns-clause-tested : goal.returns-clause-tested
returns-clause-tested c =
    let a = c.args in
    all_over (well_at a.length a.lines a.strips.now) _ _ _ _ c.all.ensures.ran (cc) (λ x b q k. search (rules, tests, fit_read))
