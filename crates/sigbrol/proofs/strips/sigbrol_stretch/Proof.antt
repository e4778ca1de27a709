-- `sigbrol::strips::sigbrol_stretch` meets its contract: the length decides, since a stretch is given exactly where it is not empty. Assumes nothing.
use Rattle.list_laws.proofs.Kit.{◌∙◌, ◌≡◌, ap, sym, List, ℕ, arith, length}
use Rattle.model.specs.Lent.{Lent}
use Rattle.model.specs.Calls.{Stores, stretch_call, stretch_given}
use Rattle.model.specs.Buffer.{direction_of}
use Rattle.c_interface.specs.Numbers.{lent_as}
use Rattle.strip_calls.specs.Stores.{stores_by}
use Rattle.strip_calls.proofs.Outcomes.{StretchPassed}
use Rattle.sigbrol.proofs.Stretches.{stretch_there, start_left, start_kept}
use Rattle.sigbrol.proofs.strips.sigbrol_stretch.Statement.{statement}
use Rattle.sigbrol.proofs.strips.sigbrol_stretch.Tie as tie

-- the lent job and stores
abbrev lentJob : tie.Start → Lent
lentJob s = let a = s.args in lent_as a.rows a.columns a.count a.gap a.table.now a.pixels.now

abbrev lentStores : tie.Start → Stores
lentStores s = let a = s.args in stores_by a.row_strips.now a.row_starts.now a.column_strips.now a.column_starts.now

-- the stretch that is given
part : tie.Start → List (List ℕ)
part s = stretch_given (stretch_call (lentJob s) s.args.turns.now (lentStores s) s.args.piece (direction_of s.args.vertical))

-- the call hands it out
handed : (c : tie.After-stretch-strips) →
    let at-start : tie.Start = search in
    c.stretch-strips.result.now ≡ part (at-start)
unfolding part
handed c = rw (c.size_of-size.ensures, c.direction_of-direction.ensures) at c.stretch-strips.ensures

-- it is there where it is not empty
there : (c : tie.Then-given) →
    let at-start : tie.Start = search in
    StretchPassed (lentJob (at-start)) at-start.args.turns.now (lentStores (at-start)) at-start.args.piece (direction_of at-start.args.vertical)
unfolding part
there c =
    let called : tie.After-stretch-strips = search in
    stretch_there _ _ _ _ _ (λ e. c.if-given.true (ap length (handed called) ∙ e))

size_of-size-requires : tie.Need-size_of-size-requires
size_of-size-requires c κs = tt

direction_of-direction-requires : tie.Need-direction_of-direction-requires
direction_of-direction-requires c κs = tt

stretch-strips-requires : tie.Need-stretch-strips-requires
stretch-strips-requires c κs = tt

start_of-requires : tie.Need-start_of-requires
start_of-requires c κs = let p = there c in (omega (arith, p.rows.there), omega (arith, p.columns.there))

returns-then-given : tie.Need-returns-then-given
unfolding part
returns-then-given c =
    let called : tie.After-stretch-strips = search in
    let longer : tie.Then-given = search in
    (ap length (handed called), c.start_of.ensures ∙ start_left _ _ _ _ _ _ (there longer))

returns-else-given : tie.Need-returns-else-given
unfolding part
returns-else-given c =
    let called : tie.After-stretch-strips = search in
    let e = ap length (handed called) in
    (e, start_kept _ _ _ _ _ _ (sym e ∙ c.if-given.false))

pub sigbrol_stretch_spec : {M : Type 1} → statement M
sigbrol_stretch_spec =
    tie.close
    (tie.spec
    size_of-size-requires direction_of-direction-requires stretch-strips-requires start_of-requires returns-then-given returns-else-given)
