-- `pair_slide::room_before` meets its contract: boxes that stay farther apart than the gap do not conflict on the way, and else the slide over the
-- strips tells where they do first. Assumes nothing.
use Rattle.list_laws.proofs.Kit.{◌∙◌, sym, arith, rules}
use Rattle.pair_slide.proofs.Rooms.{boxes_across, boxes_along, boxes_slid}
use Rattle.pair_slide.proofs.room_before.Statement.{statement}
use Rattle.pair_slide.proofs.room_before.Tie as tie

returns-then-not-spans_meet : tie.Need-returns-then-not-spans_meet
returns-then-not-spans_meet c = λ d s u t v a b first second.
    let at-start : tie.Start = search in
    let told : tie.After-spans_meet = search in
    let x = at-start.args in
    boxes_across x.gap d s u t v x.p x.q first second x.bound at-start.requires.1.1.1.1
    (sym told.spans_meet.ensures ∙ c.if-not-spans_meet.true)

returns-then-not-spans_meet-2 : tie.Need-returns-then-not-spans_meet-2
returns-then-not-spans_meet-2 c = λ d s u t v a b first second.
    let at-start : tie.Start = search in
    let told : tie.After-spans_meet-2 = search in
    let x = at-start.args in
    boxes_along x.gap d s u t v x.p x.q first second x.bound at-start.requires.1.1.1.1
    (sym told.spans_meet-2.ensures ∙ c.if-not-spans_meet-2.true)

meets_below-requires : tie.Need-meets_below-requires
meets_below-requires c κs =
    let at-start : tie.Start = search in
    let pre = at-start.requires in
    let first = pre.1.1.0.0 in
    let second = pre.1.1.0.1 in
    let fa = first.along in
    let fc = first.across in
    let sa = second.along in
    let sc = second.across in
    let less = pre.1.1.1.1 in
    (pre.0, (pre.1.0, (((omega arith, omega arith), (omega arith, omega arith)), pre.1.1.1.0)))

returns : tie.Need-returns
returns c = λ d s u t v a b first second.
    let at-start : tie.Start = search in
    let x = at-start.args in
    c.meets_below.ensures
    ∙ boxes_slid x.gap d s u t v x.p x.q first second x.bound at-start.requires.1.1.1.1 x.a.now x.b.now a b

pub room_before_spec : {M : Type 1} → statement M
room_before_spec =
    tie.close (tie.spec
    (search rules) (search rules) (search rules) returns-then-not-spans_meet (search rules) (search rules) (search rules) (search rules)
    (search rules) returns-then-not-spans_meet-2 (search rules) meets_below-requires returns)
