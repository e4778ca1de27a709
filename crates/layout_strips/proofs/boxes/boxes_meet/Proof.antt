-- `layout_strips::boxes::boxes_meet` meets its contract: boxes that are farther apart than the gap along rows or columns do not conflict. Assumes nothing.
use Rattle.list_laws.proofs.Kit.{◌∙◌, ◌≡◌, ◌&&◌, false, sym, List, ◌+◌, ℕ, ltb, rules}
use Rattle.model.specs.Piece.{corner, along, extent}
use Rattle.model.specs.Layout.{turned_piece, pair_of, pair_conflicts}
use Rattle.model.specs.Lent.{lent_by, job_of}
use Rattle.model.specs.Buffer.{layout_of}
use Rattle.model.specs.declared.Direction.{Direction}
use Rattle.model.specs.declared.Direction.TheVariants.{Horizontal, Vertical}
use Rattle.model.specs.declared.JobSize.{JobSize}
use Rattle.overlap_laws.proofs.Apart.{boxes_apart}
use Rattle.layout_strips.proofs.Measured.{gap_conflicts}
use Rattle.layout_strips.proofs.boxes.boxes_meet.Statement.{statement}
use Rattle.layout_strips.proofs.boxes.boxes_meet.Tie as tie

-- boxes of the two pieces that are farther apart along a direction
apart : (c : tie.After-turned_sides-b) (d : Direction) (size : JobSize) (pixels : List ℕ) →
    let s : tie.Start = search in
    size.gap ≡ s.args.gap →
    let first : tie.After-place_at-place = search in
    let second : tie.After-place_at-other = search in
    let j = job_of (lent_by size s.args.table.now pixels) in
    let p = first.place_at-place.result in
    let q = second.place_at-other.result in
    (ltb (along d (corner p)) (along d (corner q) + extent d (turned_piece j s.args.k q.turn) + s.args.gap)
    && ltb (along d (corner q)) (along d (corner p) + extent d (turned_piece j s.args.i p.turn) + s.args.gap)) ≡ false
    → pair_conflicts j (layout_of s.args.layout.now) (pair_of s.args.i s.args.k) ≡ false
apart c d size pixels same e =
    let s : tie.Start = search in
    let first : tie.After-place_at-place = search in
    let second : tie.After-place_at-other = search in
    let j = job_of (lent_by size s.args.table.now pixels) in
    let p = first.place_at-place.result in
    let q = second.place_at-other.result in
    let f = boxes_apart s.args.gap d (turned_piece j s.args.i p.turn) (corner p) (turned_piece j s.args.k q.turn) (corner q) e in
    let g = rw (first.place_at-place.ensures, second.place_at-other.ensures) at f in
    sym (gap_conflicts size s.args.table.now pixels s.args.layout.now s.args.gap s.args.i s.args.k same) ∙ g

returns-then-not-spans_meet : tie.Need-returns-then-not-spans_meet
returns-then-not-spans_meet c = λ e size pixels same.
    let one : tie.After-turned_sides-a = search in
    let two : tie.After-turned_sides-b = search in
    let m = sym c.before.spans_meet.ensures ∙ c.if-not-spans_meet.true in
    apart two Horizontal size pixels same (rw (one.turned_sides-a.ensures.0 size pixels, two.turned_sides-b.ensures.0 size pixels) at m)

spans_meet-requires-2 : tie.Need-spans_meet-requires-2
spans_meet-requires-2 c κs =
    let s : tie.Start = search in
    let few = s.requires.1.1 in
    (search rules, few)

returns : tie.Need-returns
returns c = λ e size pixels same.
    let one : tie.After-turned_sides-a = search in
    let two : tie.After-turned_sides-b = search in
    let m = sym c.spans_meet-2.ensures ∙ e in
    apart two Vertical size pixels same (rw (one.turned_sides-a.ensures.0 size pixels, two.turned_sides-b.ensures.0 size pixels) at m)

pub boxes_meet_spec : {M : Type 1} → statement M
boxes_meet_spec =
    tie.close (tie.spec
    (search rules) (search rules) (search rules) (search rules) (search rules) (search rules) (search rules) returns-then-not-spans_meet
    (search rules) (search rules) spans_meet-requires-2 returns)
