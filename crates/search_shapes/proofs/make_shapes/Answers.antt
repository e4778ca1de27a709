-- `search_shapes::make_shapes`: there is room for the shape of each turn of the loop, and it is stored after the others. Assumes nothing.
use Rattle.list_laws.proofs.Kit.{◌≡◌, ◌/◌, subst, sym, arith, length, length-set, set}
use Rattle.model.specs.Strip.{strips}
use Rattle.model.specs.Layout.{turned_piece}
use Rattle.model.specs.Lent.{lent_by, job_of}
use Rattle.job_laws.specs.Entries.{EntryAt}
use Rattle.job_laws.proofs.Checked.{facts, entry_at}
use Rattle.strip_scan.specs.Put.{Appended}
use Rattle.search_shapes.specs.Shapes.{ShapesRoom}
use Rattle.search_shapes.proofs.Making.{fits_next, made_more, made_all}
use Rattle.search_shapes.proofs.make_shapes.Goals as goal

pub overflow_mul-last : goal.overflow_mul-last
overflow_mul-last c = let s = (facts _ c.requires.fact_1).few_pieces in omega arith

pub pixel_start-start-requires : goal.pixel_start-start-requires
pixel_start-start-requires c =
    let f = fits_next _ _ _ _ _ _ c.requires.fact_1 (omega arith) c.loop-k.invariant in
    (omega arith, omega arith)

pub put_piece-at-requires : goal.put_piece-at-requires
put_piece-at-requires c =
    let f = fits_next _ _ _ _ _ _ c.requires.fact_1 (omega arith) c.loop-k.invariant in
    let a = c.args in (
      subst (λ start. EntryAt a.table.now (c.loop-k.k / 4) start) (sym c.pixel_start-start.ensures)
          (entry_at (lent_by a.size a.table.now a.pixels.now) (c.loop-k.k / 4) c.requires.fact_1 f.piece),
      omega arith,
    )

-- the end of the shape's strips fits
pub overflow_cast-starts : goal.overflow_cast-starts
overflow_cast-starts c =
    let f = fits_next _ _ _ _ _ _ c.requires.fact_1 (omega arith) c.loop-k.invariant in
    let a = c.args in
    let w = f.strips in
    let e =
    (subst (λ t.
    Appended (strips a.direction (turned_piece (job_of (lent_by a.size a.table.now a.pixels.now)) (c.loop-k.k / 4) t)) c.loop-k.store c.loop-k.at
    c.put_piece-at.new.store c.put_piece-at.result) c.numbered_turn-turn.ensures (c.put_piece-at.ensures a.size)).end in
    omega arith

pub offset_bounds-starts-k : goal.offset_bounds-starts-k
offset_bounds-starts-k c = let s = (facts _ c.requires.fact_1).few_pieces in omega arith

pub bounds-starts-k : goal.bounds-starts-k
bounds-starts-k c =
    let s = (facts _ c.requires.fact_1).few_pieces in
    let r = c.requires.fact_2.long in
    let q = c.loop-k.auto.starts in
    let e : length (set c.args.starts.now 0 0) ≡ length c.args.starts.now = simp length-set in
    omega arith

pub loop-k-preserved : goal.loop-k-preserved
loop-k-preserved c =
    let a = c.args in
    let o = c.loop-k in
    let f = fits_next _ _ _ _ _ _ c.requires.fact_1 (omega arith) o.invariant in
    let wide = c.requires.fact_2.wide in
    let long = c.requires.fact_2.long in
    let same = o.auto.store in
    let starts = o.auto.starts in
    let e : length (set a.starts.now 0 0) ≡ length a.starts.now = simp length-set in
    let have : ShapesRoom o.store o.starts = record { wide = omega arith; long = omega arith } in
    made_more a.direction (lent_by a.size a.table.now a.pixels.now) o.store _ o.starts o.k o.at _ o.invariant f have
    (subst (λ t.
    Appended (strips a.direction (turned_piece (job_of (lent_by a.size a.table.now a.pixels.now)) (o.k / 4) t)) o.store o.at
    c.put_piece-at.new.store c.put_piece-at.result) c.numbered_turn-turn.ensures (c.put_piece-at.ensures a.size))

pub returns : goal.returns
unfolding job_of
returns c = made_all _ _ _ _ _ _ c.loop-k-test.false c.loop-k.invariant
