-- `layout_strips::depth_of` meets its contract: both pieces' strips are made, and the bounded depth of their stretches is the pieces' depth, cut
-- off. Assumes nothing.
use Rattle.list_laws.proofs.Kit.{◌∙◌, ◌≡◌, ◌≢◌, ap, subst, sym, List, ◌<◌, ◌≤◌, ℕ, arith, length, rules}
use Rattle.model.specs.Piece.{corner}
use Rattle.model.specs.Layout.{place_of}
use Rattle.model.specs.Buffer.{layout_of}
use Rattle.pair_overlap.specs.Meet.{Ordered}
use Rattle.pair_overlap.specs.Seen.{seen}
use Rattle.pair_overlap.proofs.Shapes.{entries_depth}
use Rattle.pair_measure.proofs.Stores.{any_size, piece_ordered, seen_near, same_depth}
use Rattle.layout_strips.specs.Kept.{drawn_shape, span_start, span_end, span_made, Stands}
use Rattle.layout_strips.proofs.Keeping.{made_within}
use Rattle.layout_strips.proofs.depth_of.Statement.{statement}
use Rattle.layout_strips.proofs.depth_of.Tie as tie

-- where the function begins, from where both pieces' strips are made
abbrev entry : tie.After-draw-2 → tie.Start
entry c = search

-- where the first piece's are made
abbrev once : tie.After-draw-2 → tie.After-draw
once c = search

-- the store and the spans then
abbrev store : tie.After-draw-2 → List (List ℕ)
store c = c.draw-2.new.store

abbrev spans : tie.After-draw-2 → List (List ℕ)
spans c = c.draw-2.new.spans

-- the first piece's strips stand, and the second's
first : (c : tie.After-draw-2) →
    let s = (entry c).args in
    Stands s.direction s.table.now s.pixels.now s.layout.now (store c) (spans c) s.i
first c =
    let s : tie.Start = search in
    let drawn : tie.After-draw = search in
    c.draw-2.ensures.0.made s.args.i s.requires.1.0.0 (c.draw-2.ensures.1.1 s.args.i drawn.draw.ensures.1.0)

second : (c : tie.After-draw-2) →
    let s = (entry c).args in
    Stands s.direction s.table.now s.pixels.now s.layout.now (store c) (spans c) s.k
second c =
    let s : tie.Start = search in
    c.draw-2.ensures.0.made s.args.k s.requires.1.0.1 c.draw-2.ensures.1.0

-- each has a span, which ends in the store
bounded : (c : tie.After-draw-2) (m : ℕ) →
    let s = (entry c).args in
    m < length s.layout.now → span_made (spans c) m ≢ 0
    → (m < length (spans c)) × ((span_start (spans c) m ≤ span_end (spans c) m) × (span_end (spans c) m ≤ length (store c)))
bounded c m b made =
    let s : tie.Start = search in
    let a = s.args in
    let kept = c.draw-2.ensures.0 in
    let few = s.requires.0.few in
    let long = kept.long in
    (omega arith, made_within a.direction a.table.now a.pixels.now a.layout.now s.requires.0 (store c) (spans c) kept m b made)

-- the corners that are measured
first-corner : (c : tie.After-corner_along-u) →
    let both : tie.After-draw-2 = search in
    let s = entry both in
    c.corner_along-u.result ≡ seen s.args.direction (corner (place_of (layout_of s.args.layout.now) s.args.i))
first-corner c =
    let both : tie.After-draw-2 = search in
    let s = entry both in
    let placed : tie.After-place_at = search in
    c.corner_along-u.ensures ∙ ap (λ p. seen s.args.direction (corner p)) placed.place_at.ensures

second-corner : (c : tie.After-corner_along-v) →
    let both : tie.After-draw-2 = search in
    let s = entry both in
    c.corner_along-v.result ≡ seen s.args.direction (corner (place_of (layout_of s.args.layout.now) s.args.k))
second-corner c =
    let both : tie.After-draw-2 = search in
    let s = entry both in
    let placed : tie.After-place_at-2 = search in
    c.corner_along-v.ensures ∙ ap (λ p. seen s.args.direction (corner p)) placed.place_at-2.ensures

draw-requires : tie.Need-draw-requires
draw-requires c κs = let s : tie.Start = search in (s.requires.0, (s.requires.1.0.0, s.requires.1.1.1))

draw-requires-2 : tie.Need-draw-requires-2
draw-requires-2 c κs =
    let s : tie.Start = search in
    let drawn : tie.After-draw = search in
    (s.requires.0, (s.requires.1.0.1, drawn.draw.ensures.0))

place_at-requires : tie.Need-place_at-requires
place_at-requires c κs = let both : tie.After-draw-2 = search in (entry both).requires.1.0.0

place_at-requires-2 : tie.Need-place_at-requires-2
place_at-requires-2 c κs = let both : tie.After-draw-2 = search in (entry both).requires.1.0.1

strips_of-requires : tie.Need-strips_of-requires
strips_of-requires c κs =
    let both : tie.After-draw-2 = search in
    let s = entry both in
    bounded both s.args.i s.requires.1.0.0 (both.draw-2.ensures.1.1 s.args.i (once both).draw.ensures.1.0)

strips_of-requires-2 : tie.Need-strips_of-requires-2
strips_of-requires-2 c κs =
    let both : tie.After-draw-2 = search in
    let s = entry both in
    bounded both s.args.k s.requires.1.0.1 both.draw-2.ensures.1.0

depth_below-requires : tie.Need-depth_below-requires
depth_below-requires c κs =
    let both : tie.After-draw-2 = search in
    let s = entry both in
    let u : tie.After-corner_along-u = search in
    let v : tie.After-corner_along-v = search in
    let one : tie.After-strips_of = search in
    let two : tie.After-strips_of-2 = search in
    let a = s.args in
    let p = place_of (layout_of a.layout.now) a.i in
    let q = place_of (layout_of a.layout.now) a.k in
    let m = s.requires.0.ready a.i s.requires.1.0.0 in
    let n = s.requires.0.ready a.k s.requires.1.0.1 in (
      subst Ordered (sym (one.strips_of.ensures ∙ (first both).holds any_size))
          (piece_ordered any_size a.table.now a.pixels.now a.i m.entry p.turn a.direction),
      (
        subst Ordered (sym (two.strips_of-2.ensures ∙ (second both).holds any_size))
            (piece_ordered any_size a.table.now a.pixels.now a.k n.entry q.turn a.direction),
        (
          (
            seen_near a.direction p _ (first-corner u) m.x m.y,
            seen_near a.direction q _ (second-corner v) n.x n.y,
          ),
          omega (arith, s.requires.1.1.0),
        ),
      ),
    )

shape_of-store : tie.Need-shape_of-store
shape_of-store c =
    let both : tie.After-draw-2 = search in
    both.draw-2.auto.store ∙ (once both).draw.auto.store

shape_of-spans : tie.Need-shape_of-spans
shape_of-spans c =
    let both : tie.After-draw-2 = search in
    both.draw-2.auto.spans ∙ (once both).draw.auto.spans

returns : tie.Need-returns
returns c =
    let both : tie.After-draw-2 = search in
    let s = entry both in
    let u : tie.After-corner_along-u = search in
    let v : tie.After-corner_along-v = search in
    let one : tie.After-strips_of = search in
    let two : tie.After-strips_of-2 = search in
    let a = s.args in
    let p = place_of (layout_of a.layout.now) a.i in
    let q = place_of (layout_of a.layout.now) a.k in (
      λ size.
          c.depth_below.ensures
          ∙ same_depth a.gap _ _ _ _ _ _ _ _ a.bound (one.strips_of.ensures ∙ (first both).holds size) (first-corner u)
          (two.strips_of-2.ensures ∙ (second both).holds size) (second-corner v)
          ∙ entries_depth a.gap a.direction (drawn_shape size a.table.now a.pixels.now a.layout.now a.i) (corner p)
          (drawn_shape size a.table.now a.pixels.now a.layout.now a.k) (corner q) a.bound,
      both.draw-2.ensures.0,
    )

pub depth_of_spec : {M : Type 1} → statement M
depth_of_spec =
    tie.close (tie.spec
    draw-requires draw-requires-2 place_at-requires (search rules) place_at-requires-2 (search rules) strips_of-requires strips_of-requires-2
    depth_below-requires shape_of-store shape_of-spans returns)
