-- `search_peel::peel` meets its contract: a place that is still open at level r is set on all sides at each distance below r, so none is open past
-- the reach. Assumes nothing.
use Rattle.list_laws.proofs.Kit.{◌≡◌, refl, ◌*◌, ◌-◌, ◌≤◌, mul-le-mul_right, arith, length}
use Rattle.search_peel.proofs.Layers.{Peeling, peel_start, peel_in, peel_step, peel_end, leaves_in}
use Rattle.search_peel.proofs.peel.Statement.{statement}
use Rattle.search_peel.proofs.peel.Tie as tie

abbrev invariant-loop-v : tie.invariant-loop-v
invariant-loop-v ws w p count line₀ at v₀ r₀ line v r = (length line ≡ length line₀) × (Peeling ws w p count at line₀ line v r)

abbrev decreases-loop-v : tie.decreases-loop-v
decreases-loop-v ws w p count line₀ at v₀ r₀ line v r = 256 - r

bits_at-requires : tie.Need-bits_at-requires invariant-loop-v decreases-loop-v
bits_at-requires c κs =
    let at-start : tie.Start invariant-loop-v decreases-loop-v = search in
    let h = at-start.requires.0 in
    omega (arith, h.high, h.room)

low_bits-requires : tie.Need-low_bits-requires invariant-loop-v decreases-loop-v
low_bits-requires c κs =
    let at-start : tie.Start invariant-loop-v decreases-loop-v = search in
    at-start.requires.0.few

loop-v-init : tie.Need-loop-v-init invariant-loop-v decreases-loop-v
loop-v-init c =
    let at-start : tie.Start invariant-loop-v decreases-loop-v = search in
    let at-bits-at : tie.After-bits_at invariant-loop-v decreases-loop-v = search in
    let a = at-start.args in
    (refl, peel_start a.ws.now a.w a.p a.count a.at a.line.now at-start.requires.0 _ _ at-bits-at.bits_at.ensures c.low_bits.ensures)

-- a place is open at this level, so the level is within the reach
within : (c : tie.In-loop-v invariant-loop-v decreases-loop-v)
    →
    let at-start : tie.Start invariant-loop-v decreases-loop-v = search in
    (c.before.loop-v.r ≤ at-start.requires.0.reach) × (c.before.loop-v.r * at-start.args.w ≤ at-start.requires.0.reach * at-start.args.w)
within c =
    let at-start : tie.Start invariant-loop-v decreases-loop-v = search in
    let a = at-start.args in
    let o = c.before.loop-v in
    let l =
    peel_in a.ws.now a.w a.p a.count a.at a.line.now at-start.requires.0 o.line o.v o.r c.loop-v-test.true o.invariant.1 in
    (l, mul-le-mul_right a.w l)

inner-n-requires : tie.Need-inner-n-requires invariant-loop-v decreases-loop-v
inner-n-requires c κs =
    let at-start : tie.Start invariant-loop-v decreases-loop-v = search in
    let h = at-start.requires.0 in
    let l = within c in
    (h.wide, omega (arith, h.low), omega (arith, h.high), h.room)

overflow_cast-r : tie.Need-overflow_cast-r invariant-loop-v decreases-loop-v
overflow_cast-r c =
    let at-start : tie.Start invariant-loop-v decreases-loop-v = search in
    let at_in : tie.In-loop-v invariant-loop-v decreases-loop-v = search in
    let l = within at_in in
    omega (arith, at-start.requires.0.short)

fill-requires : tie.Need-fill-requires invariant-loop-v decreases-loop-v
fill-requires c κs =
    let at-start : tie.Start invariant-loop-v decreases-loop-v = search in
    let a = at-start.args in
    let o = c.before.before.before.loop-v in
    leaves_in a.ws.now a.w a.p a.count a.at a.line.now at-start.requires.0
    o.line o.v _ o.r o.invariant.1 c.before.inner-n.ensures _
    (omega arith) (omega arith)

overflow_add-r : tie.Need-overflow_add-r invariant-loop-v decreases-loop-v
overflow_add-r c =
    let at-start : tie.Start invariant-loop-v decreases-loop-v = search in
    let at_in : tie.In-loop-v invariant-loop-v decreases-loop-v = search in
    let l = within at_in in
    omega (arith, at-start.requires.0.short)

loop-v-smaller : tie.Need-loop-v-smaller invariant-loop-v decreases-loop-v
loop-v-smaller c =
    let at-start : tie.Start invariant-loop-v decreases-loop-v = search in
    let at_in : tie.In-loop-v invariant-loop-v decreases-loop-v = search in
    let l = within at_in in
    omega (arith, at-start.requires.0.short)

loop-v-preserved : tie.Need-loop-v-preserved invariant-loop-v decreases-loop-v
loop-v-preserved c =
    let at-start : tie.Start invariant-loop-v decreases-loop-v = search in
    let a = at-start.args in
    let o = c.before.before.before.before.before.before.loop-v in
    let g =
    peel_step a.ws.now a.w a.p a.count a.at a.line.now at-start.requires.0 o.line o.v _ o.r o.invariant.1
    c.before.before.before.before.inner-n.ensures _ c.before.before.fill.ensures in
    (g.same, g)

shape_of-line : tie.Need-shape_of-line invariant-loop-v decreases-loop-v
shape_of-line c = c.before.loop-v.invariant.0

returns : tie.Need-returns invariant-loop-v decreases-loop-v
returns c =
    let at-start : tie.Start invariant-loop-v decreases-loop-v = search in
    let a = at-start.args in
    let o = c.before.loop-v in
    peel_end a.ws.now a.w a.p a.count a.at a.line.now at-start.requires.0 o.line o.v o.r c.loop-v-test.false o.invariant.1

pub peel_spec : {M : Type 1} → statement M
peel_spec =
    tie.close (tie.spec
    invariant-loop-v decreases-loop-v bits_at-requires low_bits-requires loop-v-init inner-n-requires overflow_cast-r fill-requires overflow_add-r
    loop-v-smaller loop-v-preserved shape_of-line returns)
