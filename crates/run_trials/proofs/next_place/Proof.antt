-- `run_trials::next_place` meets its contract, by the test for the last place. Assumes nothing.
use Rattle.list_laws.proofs.Kit.{sym, rules}
use Rattle.run_trials.proofs.Listing.{after_more, after_last}
use Rattle.run_trials.proofs.next_place.Statement.{statement}
use Rattle.run_trials.proofs.next_place.Tie as tie

returns-then-at-count : tie.Need-returns-then-at-count
returns-then-at-count c = let at-then1 : tie.Then-at-count = search in sym (after_more _ _ at-then1.if-at-count.true)

returns : tie.Need-returns
returns c = sym (after_last _ _ c.if-at-count.false)

pub next_place_spec : {M : Type 1} → statement M
next_place_spec = tie.close (tie.spec
    (search rules) (search rules) returns-then-at-count returns)
