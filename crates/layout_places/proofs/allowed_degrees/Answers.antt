-- `layout_places::allowed_degrees`: what `is_some_and` answers of the turn that may be missing. Assumes nothing.
use Rattle.std.proofs.Common.{rules}
use borrow.Author.Tests.{tests}
use Rattle.model.specs.Layout.{allowed}
use Rattle.model.specs.Lent.{lent_by, job_of}
use Rattle.model.specs.Buffer.{turn_of_degrees}
use Rattle.model.specs.Calls.{allowed_degrees}
use Rattle.layout_places.proofs.Places.{asked_of_turn}
use Rattle.layout_places.proofs.allowed_degrees.Goals as goal

pub returns : goal.returns
unfolding allowed_degrees
returns c = λ size pixels.
    let a = c.args in
    asked_of_turn (turn_of_degrees a.degrees) _ _ _ (allowed (job_of (lent_by size a.table.now pixels)) a.i) c.turn_of.ensures c.is_some_and.ensures
    (λ t p. search (rules, tests))
