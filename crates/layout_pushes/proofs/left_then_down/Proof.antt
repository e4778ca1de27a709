-- `layout_pushes::left_then_down` meets its contract: two slides, one after the other. Assumes nothing.
use Rattle.list_laws.proofs.Kit.{arith, rules}
use Rattle.model.specs.Compact.{slide, left_then_down}
use Rattle.model.specs.Lent.{Lent, lent_by, job_of}
use Rattle.model.specs.Buffer.{layout_of}
use Rattle.model.specs.declared.Direction.TheVariants.{Horizontal, Vertical}
use Rattle.compact_laws.specs.Pushed.{Pushed}
use Rattle.compact_laws.proofs.Slides.{slide_pushed}
use Rattle.layout_pushes.proofs.Pushing.{whole, pushable_after, slid_small, then_slid, then_layout}
use Rattle.layout_pushes.proofs.left_then_down.Statement.{statement}
use Rattle.layout_pushes.proofs.left_then_down.Tie as tie

-- the lent job
abbrev lent : tie.Start → Lent
lent s = lent_by s.args.size s.args.table.now s.args.pixels.now

-- the first slide pushes the layout
pushed-left : (s : tie.Start)
    → Pushed (job_of (lent s)) (layout_of s.args.layout.now) (slide Horizontal (job_of (lent s)) s.args.i (layout_of s.args.layout.now))
unfolding job_of
pushed-left s = slide_pushed Horizontal (job_of (lent s)) s.args.i _ (whole (lent s) _ _ _ _ _ s.requires.0) s.requires.1.0 s.requires.1.1

slide-left-requires : tie.Need-slide-left-requires
slide-left-requires c κs =
    let s : tie.Start = search in
    let h = s.requires.0 in
    (record { laid = h.laid; drawn = h.rows_drawn }, (s.requires.1.0, h.written))

slide-down-requires : tie.Need-slide-down-requires
slide-down-requires c κs =
    let s : tie.Start = search in
    let once : tie.After-slide-left = search in
    let h = pushable_after (lent s) _ _ _ _ _ s.requires.0 _ (pushed-left s) _ once.slide-left.ensures.1 in
    (record { laid = h.laid; drawn = h.columns_drawn }, (s.requires.1.0, h.written))

overflow_add-result : tie.Need-overflow_add-result
unfolding job_of
overflow_add-result c =
    let s : tie.Start = search in
    let once : tie.After-slide-left = search in
    let twice : tie.After-slide-down = search in
    let l = lent s in
    let h = pushable_after l _ _ _ _ _ s.requires.0 _ (pushed-left s) _ once.slide-left.ensures.1 in
    let left = slid_small l _ _ _ _ _ s.requires.0 _ (pushed-left s) in
    let down = slid_small l _ _ _ _ _ h _ (slide_pushed Vertical (job_of l) s.args.i _ (whole l _ _ _ _ _ h) s.requires.1.0 s.requires.1.1) in
    omega (arith, left, down, once.slide-left.ensures.0, twice.slide-down.ensures.0)

returns : tie.Need-returns
unfolding left_then_down
returns c =
    let s : tie.Start = search in
    let once : tie.After-slide-left = search in
    let twice : tie.After-slide-down = search in
    let j = job_of (lent s) in
    let i = s.args.i in
    let v = layout_of s.args.layout.now in
    let a = once.slide-left.ensures in
    let b = twice.slide-down.ensures in (
      then_slid (slide Horizontal j i v) (slide Vertical j i) _ _ _ _ a.0 a.1 b.0 b.1,
      then_layout (slide Horizontal j i v) (slide Vertical j i) _ _ _ _ a.0 a.1 b.0 b.1,
    )

pub left_then_down_spec : {M : Type 1} → statement M
left_then_down_spec = tie.close (tie.spec
    slide-left-requires slide-down-requires overflow_add-result (search rules) returns)
