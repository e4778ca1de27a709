-- `strip_scan::scan::find`: the first wanted cell from `at` on is that from `from` on. Assumes nothing.
use Rattle.list_laws.proofs.Kit.{◌≡◌, ◌-◌, bool_beq}
use Rattle.model.specs.Bounded.{first_from}
use Rattle.model.specs.Piece.{cell}
use Rattle.piece_pixels.specs.Turned.{shown_by}
use Rattle.strip_scan.proofs.scan.find.Given as goal

abbrev pub invariant-loop-at : goal.invariant-loop-at
invariant-loop-at l =
    first_from (λ a. bool_beq (cell l.direction (shown_by l.pixels l.piece) a l.line) l.wanted) l.at (l.length - l.at)
    ≡ first_from (λ a. bool_beq (cell l.direction (shown_by l.pixels l.piece) a l.line) l.wanted) l.from (l.length - l.from)
