-- `layout_strips::draw` meets its contract: strips that are made stand, and else they are put into the piece's part of the store. Assumes nothing.
use Rattle.list_laws.proofs.Kit.{subst, sym, ◌<◌, arith, length, rules}
use Rattle.model.specs.Strip.{strips}
use Rattle.model.specs.Lent.{pixel_start}
use Rattle.model.specs.declared.JobSize.{JobSize}
use Rattle.job_laws.specs.Entries.{EntryAt}
use Rattle.strip_scan.specs.Put.{Appended}
use Rattle.layout_strips.specs.Kept.{drawn_shape}
use Rattle.layout_strips.proofs.Keeping.{kept_more, made_now, made_still}
use Rattle.layout_strips.proofs.draw.Statement.{statement}
use Rattle.layout_strips.proofs.draw.Tie as tie

-- the piece is one of at most 64, so that it has a span
span_there : (s : tie.Start) → (s.args.i < length s.args.spans.now) × (s.args.i < 64)
span_there s =
    let b = s.requires.1.0 in
    let few = s.requires.0.few in
    let long = s.requires.1.1.long in (omega arith, omega arith)

offset_bounds-spans-i : tie.Need-offset_bounds-spans-i
offset_bounds-spans-i c = let s : tie.Start = search in let b = (span_there s).1 in omega arith

bounds-spans-i : tie.Need-bounds-spans-i
bounds-spans-i c = let s : tie.Start = search in (span_there s).0

returns-then-made : tie.Need-returns-then-made
returns-then-made c =
    let s : tie.Start = search in
    (s.requires.1.1, (c.if-made.true, λ m q. q))

pixel_start-start-requires : tie.Need-pixel_start-start-requires
pixel_start-start-requires c κs =
    let s : tie.Start = search in
    let r = s.requires.0.ready s.args.i s.requires.1.0 in
    let within = r.entry.within in
    let few = r.few in (omega arith, omega arith)

put_piece-end-requires : tie.Need-put_piece-end-requires
put_piece-end-requires c κs =
    let s : tie.Start = search in
    let began : tie.After-pixel_start-start = search in
    let r = s.requires.0.ready s.args.i s.requires.1.0 in
    let e = began.pixel_start-start.ensures in
    let small = r.entry.small in
    (subst (EntryAt s.args.table.now s.args.i) (sym e) r.entry, omega arith)

offset_bounds-spans-i-2 : tie.Need-offset_bounds-spans-i-2
offset_bounds-spans-i-2 c = let s : tie.Start = search in let b = (span_there s).1 in omega arith

bounds-spans-i-2 : tie.Need-bounds-spans-i-2
bounds-spans-i-2 c = let s : tie.Start = search in (span_there s).0

-- the piece's strips are put where its part begins
put : (c : tie.After-put_piece-end) (size : JobSize) →
    let s : tie.Start = search in
    let a = s.args in
    Appended (strips a.direction (drawn_shape size a.table.now a.pixels.now a.layout.now a.i)) a.store.now
    (pixel_start a.table.now a.i) c.put_piece-end.new.store c.put_piece-end.result
put c size =
    let s : tie.Start = search in
    let placed : tie.After-place_at-turn = search in
    let began : tie.After-pixel_start-start = search in
    rw (← began.pixel_start-start.ensures, ← placed.place_at-turn.ensures) (c.put_piece-end.ensures size)

returns : tie.Need-returns
returns c =
    let s : tie.Start = search in
    let began : tie.After-pixel_start-start = search in
    let filled : tie.After-put_piece-end = search in
    let a = s.args in
    rw began.pixel_start-start.ensures (
      kept_more a.direction a.table.now a.pixels.now a.layout.now s.requires.0 a.store.now a.spans.now s.requires.1.1 a.i
          s.requires.1.0 _ _ (put filled),
      (
        made_now a.direction a.table.now a.pixels.now a.layout.now s.requires.0 a.store.now a.spans.now s.requires.1.1 a.i
            s.requires.1.0 _ _ (put filled),
        made_still a.direction a.table.now a.pixels.now a.layout.now s.requires.0 a.store.now a.spans.now s.requires.1.1 a.i
            s.requires.1.0 _ _ (put filled),
      ),
    )

pub draw_spec : {M : Type 1} → statement M
draw_spec =
    tie.close (tie.spec
    offset_bounds-spans-i bounds-spans-i (search rules) returns-then-made (search rules) pixel_start-start-requires put_piece-end-requires
    offset_bounds-spans-i-2 bounds-spans-i-2 (search rules) (search rules) returns)
