-- Document 01, 'When a call says no', reading a layout: a layout that reading gives has a placement for each piece, in an allowed
-- turn and inside, so that no call refuses it with 7, 9 or 10. Assumes nothing.
use Rattle.list_laws.proofs.Kit.{◌≡◌, ap, refl, List, [], ◌∷◌, ◌+◌, ◌<◌, suc, zero, ℕ, add-zero, arith, eqb, length, eqb-true, not-false}
use Rattle.model.specs.Layout.{Job, Layout, allowed, inside, place_of}
use Rattle.model.specs.Refusal.{Outcome, given}
use Rattle.model.specs.Text.{four_fields, line_at}
use Rattle.model.specs.LayoutText.{at_word, PlacementLine, as_placement_line, placement_causes, layout_line, placement_line, placements_at, read_layout}
use Rattle.model.specs.declared.Placement.{Placement}
use Rattle.text_laws.specs.Texts.{Placed}
use Rattle.text_laws.specs.Outcomes.{Unless}
use Rattle.text_laws.proofs.Outcomes.{given_unless, given_before, given_formed}

-- a placement for each of `left` pieces from number i on
pub record AllPlaced (j : Job) (i left : ℕ) (v : Layout) : Type 0 where
  pub size : length v ≡ left
  pub placed : (k : ℕ) → k < left → Placed j (i + k) (place_of v k)

-- the line of a piece that is given
placement_read : (j : Job) (text : List ℕ) (i p line : ℕ) (h : PlacementLine) → placement_line j text i p line ≡ given h → Placed j i h.place
unfolding placement_line
placement_read j text i p line h e =
    let f = given_formed line (line_at at_word four_fields text p) _ h e in
    let here : PlacementLine = as_placement_line f.value f.next in
    let causes = placement_causes line j i f.value here.place in
    let u : Unless causes here h = given_unless causes here h f.goes in
    rw (← u.same)
    (record {
      turn = not-false (allowed j i here.place.turn) u.none.1.0;
      within = not-false (inside j i here.place) u.none.1.1.0;
    })

-- one placement in front
placed_in_front : (j : Job) (i left : ℕ) (q : Placement) (v : Layout) → Placed j i q → AllPlaced j (suc i) left v → AllPlaced j i (suc left) (q ∷ v)
placed_in_front j i left q v first later = record { size = ap suc later.size; placed = at }
  where
    at : (k : ℕ) → k < suc left → Placed j (i + k) (place_of (q ∷ v) k)
    at zero l = rw add-zero first
    at (suc k) l = let s : i + suc k ≡ suc i + k = omega arith in rw s (later.placed k (omega arith))

-- the lines of pieces that are given
placements_read : (j : Job) (text : List ℕ) (left i p line : ℕ) (v : Layout) → placements_at j text left i p line ≡ given v → AllPlaced j i left v
unfolding placements_at
placements_read j text zero i p line v e =
    let u : Unless _ [] v = given_unless _ [] v e in
    rw (← u.same) (record { size = refl; placed = λ k l. absurd (omega arith) })
placements_read j text (suc left) i p line v e =
    let b = given_before (placement_line j text i p line) _ v e in
    let b' = given_before (placements_at j text left (suc i) b.value.next (suc line)) _ v b.goes in
    let first : Placed j i b.value.place = placement_read j text i p line b.value b.gives in
    let later : AllPlaced j (suc i) left b'.value = placements_read j text left (suc i) b.value.next (suc line) b'.value b'.gives in
    let g : ◌≡◌ {A = Outcome Layout} (given (b.value.place ∷ b'.value)) (given v) = b'.goes in
    let z : b.value.place ∷ b'.value ≡ v = cc in
    rw (← z) (placed_in_front j i left b.value.place b'.value first later)

-- a layout that reading gives has the buffer's length and is placed whole
pub layout_read_placed : (j : Job) (text : List ℕ) (layout_length : ℕ) (v : Layout) → read_layout j text layout_length ≡ given v
    → (layout_length ≡ j.size.count) × AllPlaced j 0 j.size.count v
unfolding read_layout
layout_read_placed j text layout_length v e =
    let b = given_before (layout_line j text) _ v e in
    let b' = given_before (placements_at j text j.size.count 0 b.value 2) _ v b.goes in
    let u : Unless _ b'.value v = given_unless _ b'.value v b'.goes in (
      eqb-true layout_length j.size.count (not-false (eqb layout_length j.size.count) u.none.0),
      rw (← u.same) (placements_read j text j.size.count 0 b.value 2 b'.value b'.gives),
    )
