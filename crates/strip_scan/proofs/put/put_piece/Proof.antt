-- `strip_scan::put::put_piece` meets its contract: the turned piece of the table's entry shows the job's piece. Assumes nothing.
use Rattle.list_laws.proofs.Kit.{◌∙◌, ap, subst, rules}
use Rattle.model.specs.Strip.{strips}
use Rattle.piece_pixels.specs.Turned.{shown_by}
use Rattle.piece_pixels.proofs.Jobs.{shown_piece}
use Rattle.strip_scan.specs.Put.{Appended}
use Rattle.strip_scan.proofs.Jobs.{made_small}
use Rattle.strip_scan.proofs.put.put_piece.Statement.{statement}
use Rattle.strip_scan.proofs.put.put_piece.Tie as tie

turned_piece-requires : tie.Need-turned_piece-requires
turned_piece-requires c κs = c.requires.0.within

put_strips-requires : tie.Need-put_strips-requires
put_strips-requires c κs =
    let at-start : tie.Start = search in
    let a = at-start.args in
    let p = at-start.requires in
    (rw c.turned_piece.ensures (made_small a.table.now a.piece a.start a.turn p.0), p.1)

returns : tie.Need-returns
returns c = λ size.
    let at-turned-piece : tie.After-turned_piece = search in
    let at-start : tie.Start = search in
    let a = at-start.args in
    let p = at-start.requires in
    subst (λ s. Appended (strips a.direction s) a.store.now a.at c.put_strips.new.store c.put_strips.result)
    (ap (shown_by a.pixels.now) at-turned-piece.turned_piece.ensures
    ∙ shown_piece size a.table.now a.pixels.now a.piece a.start a.turn p.0.begins)
    c.put_strips.ensures

pub put_piece_spec : {M : Type 1} → statement M
put_piece_spec = tie.close (tie.spec
    turned_piece-requires put_strips-requires (search rules) returns)
