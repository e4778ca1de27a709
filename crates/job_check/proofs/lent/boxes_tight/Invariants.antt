-- `job_check::lent::boxes_tight`: the boxes before i are tight, and the pixels of piece i begin at `start`. Assumes nothing.
use Rattle.list_laws.proofs.Kit.{◌≡◌, true, ℕ, ◌*◌, ◌<◌, ◌≤◌}
use Rattle.model.specs.Piece.{tight}
use Rattle.model.specs.Lent.{pixel_start}
use Rattle.job_check.specs.Boxes.{stored_box}
use Rattle.job_check.proofs.lent.boxes_tight.Given as goal

abbrev pub invariant-loop-i : goal.invariant-loop-i
invariant-loop-i l =
    (l.start ≡ pixel_start l.table l.i) × (l.start ≤ 65025 * l.i) × ((k : ℕ) → k < l.i → tight (stored_box l.table l.pixels k) ≡ true)
