-- `layout_preview_calls::put_moved` meets its contract: the copy is the layout, and one entry of it is written anew. Assumes nothing.
use Rattle.list_laws.proofs.Kit.{◌∙◌, ap, sym, arith, length, length-set, rules}
use Rattle.layout_preview_calls.proofs.put_moved.Statement.{statement}
use Rattle.layout_preview_calls.proofs.put_moved.Tie as tie

bounds-moved-piece : tie.Need-bounds-moved-piece
bounds-moved-piece c =
    let s : tie.Start = search in
    let copied : tie.After-copy = search in
    let same = ap length copied.copy.ensures in
    let b = s.requires.1 in omega arith

shape_of-moved : tie.Need-shape_of-moved
shape_of-moved c =
    let s : tie.Start = search in
    let copied : tie.After-copy = search in
    rw length-set (ap length copied.copy.ensures ∙ sym s.requires.0)

returns : tie.Need-returns
returns c =
    let s : tie.Start = search in
    let copied : tie.After-copy = search in
    let written : tie.After-entry_of = search in
    rw (copied.copy.ensures, written.entry_of.ensures)

pub put_moved_spec : {M : Type 1} → statement M
put_moved_spec = tie.close (tie.spec
    (search rules) (search rules) (search rules) bounds-moved-piece shape_of-moved returns)
