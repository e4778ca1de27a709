-- `layout_pushes::push_all` meets its contract. The loop's invariant: what is still to slide from the present layout, added to what has slid, is what
-- slides from the given one; each pass but the last lowers the sum of all corner coordinates. Assumes nothing.
use Rattle.list_laws.proofs.Kit.{◌∙◌, ◌≡◌, refl, arith, length}
use Rattle.model.specs.Layout.{Layout}
use Rattle.model.specs.Compact.{corner_sum, pass, compact}
use Rattle.model.specs.Lent.{Lent, lent_by, job_of}
use Rattle.model.specs.Buffer.{layout_of}
use Rattle.compact_laws.specs.Pushed.{Pushed}
use Rattle.compact_laws.proofs.Rest.{pass_pushed}
use Rattle.layout_pushes.specs.Pushable.{Pushable}
use Rattle.layout_pushes.proofs.Pushing.{whole, pushable_after, sum_small}
use Rattle.layout_pushes.proofs.Resting.{Pushing, pushing_begin, pushing_more, push_falls, rest_slid, rest_layout}
use Rattle.layout_pushes.proofs.push_all.Statement.{statement}
use Rattle.layout_pushes.proofs.push_all.Tie as tie

abbrev invariant-loop-size : tie.invariant-loop-size
invariant-loop-size size table pixels layout₀ rows row-spans columns column-spans slid₀ layout slid =
    Pushable (lent_by size table pixels) layout rows row-spans columns column-spans
    × ((length layout ≡ length layout₀) × Pushing (pass (job_of (lent_by size table pixels))) (layout_of layout₀) (layout_of layout) slid)

abbrev decreases-loop-size : tie.decreases-loop-size
decreases-loop-size size table pixels layout₀ rows row-spans columns column-spans slid₀ layout slid = corner_sum (layout_of layout)

-- the lent job
abbrev lent : tie.Start invariant-loop-size decreases-loop-size → Lent
lent s = lent_by s.args.size s.args.table.now s.args.pixels.now

-- a pass pushes the layout
each : (s : tie.Start invariant-loop-size decreases-loop-size) (w : Layout) → length w ≡ (job_of (lent s)).size.count
    → Pushed (job_of (lent s)) w (pass (job_of (lent s)) w)
each s w long = pass_pushed (job_of (lent s)) w long

loop-size-init : tie.Need-loop-size-init invariant-loop-size decreases-loop-size
loop-size-init c =
    let s : tie.Start invariant-loop-size decreases-loop-size = search in
    (s.requires, (refl, pushing_begin _ _))

push_each-moved-requires : tie.Need-push_each-moved-requires invariant-loop-size decreases-loop-size
push_each-moved-requires c κs =
    let l : tie.At-loop-size invariant-loop-size decreases-loop-size = search in
    l.loop-size.invariant.0

shape_of-layout-then-at_rest : tie.Need-shape_of-layout-then-at_rest invariant-loop-size decreases-loop-size
shape_of-layout-then-at_rest c =
    let l : tie.At-loop-size invariant-loop-size decreases-loop-size = search in
    let round : tie.After-push_each-moved invariant-loop-size decreases-loop-size = search in
    round.push_each-moved.auto.layout ∙ l.loop-size.invariant.1.0

returns-then-at_rest : tie.Need-returns-then-at_rest invariant-loop-size decreases-loop-size
unfolding compact
returns-then-at_rest c =
    let s : tie.Start invariant-loop-size decreases-loop-size = search in
    let l : tie.At-loop-size invariant-loop-size decreases-loop-size = search in
    let round : tie.After-push_each-moved invariant-loop-size decreases-loop-size = search in
    let j = job_of (lent s) in
    let e = round.push_each-moved.ensures in
    let long = whole (lent s) _ _ _ _ _ l.loop-size.invariant.0 in
    let h = l.loop-size.invariant.1.1 in (
      rest_slid j _ (pass j) (each s) _ _ _ h long _ _ e.0 e.1 c.if-at_rest.true,
      rest_layout j _ (pass j) (each s) _ _ _ h long _ _ e.0 e.1 c.if-at_rest.true,
    )

overflow_add-slid : tie.Need-overflow_add-slid invariant-loop-size decreases-loop-size
overflow_add-slid c =
    let s : tie.Start invariant-loop-size decreases-loop-size = search in
    let l : tie.At-loop-size invariant-loop-size decreases-loop-size = search in
    let round : tie.After-push_each-moved invariant-loop-size decreases-loop-size = search in
    let first = sum_small (lent s) _ _ _ _ _ s.requires in
    let fall = (each s (layout_of l.loop-size.layout) (whole (lent s) _ _ _ _ _ l.loop-size.invariant.0)).slid_is_fall in
    let so_far = l.loop-size.invariant.1.1.falls in
    omega (arith, first, fall, so_far, round.push_each-moved.ensures.0)

loop-size-smaller : tie.Need-loop-size-smaller invariant-loop-size decreases-loop-size
loop-size-smaller c =
    let s : tie.Start invariant-loop-size decreases-loop-size = search in
    let l : tie.At-loop-size invariant-loop-size decreases-loop-size = search in
    let round : tie.After-push_each-moved invariant-loop-size decreases-loop-size = search in
    let on : tie.Else-at_rest invariant-loop-size decreases-loop-size = search in
    let j = job_of (lent s) in
    let e = round.push_each-moved.ensures in
    let long = whole (lent s) _ _ _ _ _ l.loop-size.invariant.0 in
    push_falls j _ (pass j) (each s) _ _ _ l.loop-size.invariant.1.1 long _ _ e.0 e.1 on.if-at_rest.false

loop-size-preserved : tie.Need-loop-size-preserved invariant-loop-size decreases-loop-size
loop-size-preserved c =
    let s : tie.Start invariant-loop-size decreases-loop-size = search in
    let l : tie.At-loop-size invariant-loop-size decreases-loop-size = search in
    let round : tie.After-push_each-moved invariant-loop-size decreases-loop-size = search in
    let on : tie.Else-at_rest invariant-loop-size decreases-loop-size = search in
    let j = job_of (lent s) in
    let e = round.push_each-moved.ensures in
    let long = whole (lent s) _ _ _ _ _ l.loop-size.invariant.0 in (
      pushable_after (lent s) _ _ _ _ _ l.loop-size.invariant.0 _ (each s _ long) _ e.1,
      (
        round.push_each-moved.auto.layout ∙ l.loop-size.invariant.1.0,
        pushing_more j _ (pass j) (each s) _ _ _ l.loop-size.invariant.1.1 long _ _ e.0 e.1 on.if-at_rest.false,
      ),
    )

pub push_all_spec : {M : Type 1} → statement M
push_all_spec =
    tie.close (tie.spec
    invariant-loop-size decreases-loop-size loop-size-init push_each-moved-requires shape_of-layout-then-at_rest returns-then-at_rest
    overflow_add-slid loop-size-smaller loop-size-preserved)
