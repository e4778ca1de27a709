-- `strip_scan::compare::compare_piece` meets its contract: the turned piece of the table's entry shows the job's piece. Assumes nothing.
use Rattle.list_laws.proofs.Kit.{◌∙◌, ap}
use Rattle.model.specs.Strip.{strips}
use Rattle.piece_pixels.specs.Turned.{shown_by}
use Rattle.piece_pixels.proofs.Jobs.{shown_piece}
use Rattle.strip_scan.specs.Compare.{compared}
use Rattle.strip_scan.proofs.Jobs.{made_small}
use Rattle.strip_scan.proofs.compare.compare_piece.Statement.{statement}
use Rattle.strip_scan.proofs.compare.compare_piece.Tie as tie

turned_piece-requires : tie.Need-turned_piece-requires
turned_piece-requires c κs = c.before.requires.0.within

compare_strips-requires : tie.Need-compare_strips-requires
compare_strips-requires c κs =
    let a = c.before.before.args in
    let p = c.before.before.requires in
    (rw c.turned_piece.ensures (made_small a.table.now a.piece a.start a.turn p.0), p.1)

returns : tie.Need-returns
returns c = λ size.
    let at-start : tie.Start = search in
    let a = at-start.args in
    let p = at-start.requires in
    c.compare_strips.ensures
    ∙ ap (λ s. compared (strips a.direction s) a.store.now a.at)
    (ap (shown_by a.pixels.now) c.before.turned_piece.ensures
    ∙ shown_piece size a.table.now a.pixels.now a.piece a.start a.turn p.0.begins)

pub compare_piece_spec : {M : Type 1} → statement M
compare_piece_spec = tie.close (tie.spec
    turned_piece-requires compare_strips-requires returns)
