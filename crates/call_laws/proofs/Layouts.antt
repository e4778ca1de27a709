-- Document 01, 'When a call says no', 7, 9 and 10 of a layout and 7 and 2 of weights: lent buffers that are not refused hold a valid
-- layout and valid weights, as demand 3 asks for. A layout buffer is read entry by entry, so what holds of each entry holds of each
-- placement. Assumes nothing.
use Rattle.list_laws.proofs.Kit.{◌∙◌, ◌≡◌, ap, refl, sym, Bool, false, false≢true, not, true, true≢false, Option, none, some, List, [], ◌∷◌, ◌<◌, suc, zero, ℕ}
use Rattle.list_laws.proofs.Kit.{le_of_suc-le-suc, not-suc-le-zero, arith, leb, get_or-map, get_or, length, length-map, eqb-true, le-leb, leb-true}
use Rattle.list_laws.proofs.Kit.{not-false, eqb, ◌&&◌, ◌||◌, ltb, ltb-true, lt-ltb}
use Rattle.model.specs.Piece.{degrees}
use Rattle.model.specs.Layout.{Job, Layout, allowed, is_locked, inside, place_of, pairs}
use Rattle.model.specs.Buffer.{turn_of_degrees, turn_passes, turn_of, entry_of, placement_of, entries_of, layout_of}
use Rattle.model.specs.Guided.{weight_bound}
use Rattle.model.specs.Lent.{Lent, job_of, lent_well, up_to}
use Rattle.model.specs.Calls.{allowed_degrees, some_turn_wrong, some_outside, some_weight_wrong, job_cause, layout_length, turns_cause, outside_cause, weights_length}
use Rattle.model.specs.Calls.{placing_causes, locked_turn_wrong, locked_outside}
use Rattle.model.specs.declared.Turn.{Turn}
use Rattle.model.specs.declared.Turn.TheVariants.{Zero, Quarter, Half, ThreeQuarters}
use Rattle.list_laws.proofs.Tests.{and_left, and_right, and_both, or_neither, second_fails}
use Rattle.list_laws.proofs.Bounded.{any_none, none_any}
use Rattle.text_laws.specs.Outcomes.{NoCause}
use Rattle.text_laws.proofs.Entries.{entry_at, entries_read_back}
use Rattle.descent_laws.specs.Claims.{InRange, ValidWeights, ValidLayout}
use Rattle.descent_laws.specs.Start.{LockedGiven}

-- ── layouts ──

-- by the turn of the degrees, if there is one
passes_step : (test : Turn → Bool) (o : Option Turn) → elim o as (λ _. Bool) [ none ↦ false | some t ↦ test t ] ≡ true
    → test (elim o as (λ _. Turn) [ none ↦ Zero | some t ↦ t ]) ≡ true
passes_step test none e = absurd (false≢true e)
passes_step test (some t) e = e

-- degrees that pass are those of a turn that passes
pub passes_turn : (test : Turn → Bool) (d : ℕ) → turn_passes test d ≡ true → test (turn_of d) ≡ true
unfolding turn_of
passes_turn test d e = passes_step test (turn_of_degrees d) e

-- the turn by the tests for 0, 90, 180 and 270 degrees
abbrev turn_by : Bool → Bool → Bool → Bool → Option Turn
turn_by a b c e =
    elim a as (λ _. Option Turn) [
      | true ↦ some Zero
      | false ↦
          elim b as (λ _. Option Turn) [
            | true ↦ some Quarter
            | false ↦
                elim c as (λ _. Option Turn)
                [ true ↦ some Half | false ↦ elim e as (λ _. Option Turn) [ true ↦ some ThreeQuarters | false ↦ none ] ]
          ]
    ]

-- by these tests
degrees_at : (test : Turn → Bool) (d : ℕ) (a b c e : Bool) → eqb d 0 ≡ a → eqb d 90 ≡ b → eqb d 180 ≡ c → eqb d 270 ≡ e
    → elim (turn_by a b c e) as (λ _. Bool) [ none ↦ false | some t ↦ test t ] ≡ true
    → degrees (elim (turn_by a b c e) as (λ _. Turn) [ none ↦ Zero | some t ↦ t ]) ≡ d
degrees_at test d true b c e h0 h1 h2 h3 p = sym (eqb-true d 0 h0)
degrees_at test d false true c e h0 h1 h2 h3 p = sym (eqb-true d 90 h1)
degrees_at test d false false true e h0 h1 h2 h3 p = sym (eqb-true d 180 h2)
degrees_at test d false false false true h0 h1 h2 h3 p = sym (eqb-true d 270 h3)
degrees_at test d false false false false h0 h1 h2 h3 p = absurd (false≢true p)

-- degrees that pass are those of their turn
passes_degrees : (test : Turn → Bool) (d : ℕ) → turn_passes test d ≡ true → degrees (turn_of d) ≡ d
unfolding turn_of turn_of_degrees
passes_degrees test d p = degrees_at test d (eqb d 0) (eqb d 90) (eqb d 180) (eqb d 270) refl refl refl refl p

-- an entry of three numbers whose degrees pass is that of its placement
pub entry_written : (test : Turn → Bool) (e : List ℕ) → length e ≡ 3 → turn_passes test (get_or e 0 0) ≡ true → e ≡ entry_of (placement_of e)
entry_written test [] n p = absurd (omega arith)
entry_written test (d ∷ []) n p = absurd (omega arith)
entry_written test (d ∷ x ∷ []) n p = absurd (omega arith)
entry_written test (d ∷ x ∷ y ∷ []) n p = ap (λ (k : ℕ). k ∷ x ∷ y ∷ []) (sym (passes_degrees test d p))
entry_written test (d ∷ x ∷ y ∷ z ∷ es) n p = absurd (omega arith)

-- a piece's placement in a layout buffer is its entry's
pub buffer_place : (es : List (List ℕ)) (i : ℕ) → place_of (layout_of es) i ≡ placement_of (get_or es i [])
unfolding turn_of turn_of_degrees
buffer_place es i = get_or-map placement_of es i []

-- a layout buffer of the right length, none of whose turns is wrong and none of whose placements is outside, holds a valid layout
pub buffer_valid : (j : Job) (es : List (List ℕ)) → length es ≡ j.size.count → some_turn_wrong j es ≡ false → some_outside j (layout_of es) ≡ false
    → ValidLayout j (layout_of es)
unfolding some_turn_wrong some_outside allowed_degrees
buffer_valid j es size turns outside =
    record {
      one_per_piece = length-map es placement_of ∙ size;
      inside_sheet = λ i l. not-false _ (any_none j.size.count (λ k. not (inside j k (place_of (layout_of es) k))) outside i l);
      turn_allowed = λ i l.
          rw (buffer_place es i)
          (passes_turn (allowed j i) (get_or (get_or es i []) 0 0)
          (not-false _ (any_none j.size.count (λ k. not (turn_passes (allowed j k) (get_or (get_or es k []) 0 0))) turns i l)));
    }

-- ── locked placements ──

-- a locked piece for which nothing is wrong passes
locked_passes : (b c : Bool) → b ≡ true → (b && not c) ≡ false → c ≡ true
locked_passes true c e h = not-false c h
locked_passes false c e h = absurd (false≢true e)

-- where no locked turn is wrong, a locked entry of three numbers is that of its placement
pub locked_written : (j : Job) (es : List (List ℕ)) → locked_turn_wrong j es ≡ false → (i : ℕ) → i < j.size.count → is_locked j i ≡ true
    → length (get_or es i []) ≡ 3 → get_or es i [] ≡ entry_of (placement_of (get_or es i []))
unfolding locked_turn_wrong allowed_degrees
locked_written j es turns i l locked n =
    entry_written (allowed j i) (get_or es i []) n
    (locked_passes (is_locked j i) _ locked
    (any_none j.size.count (λ k. is_locked j k && not (turn_passes (allowed j k) (get_or (get_or es k []) 0 0))) turns i l))

-- a layout buffer of the right length, none of whose locked turns is wrong and none of whose locked placements is outside, holds the locked
-- placements
pub locked_given : (j : Job) (es : List (List ℕ)) → length es ≡ j.size.count → locked_turn_wrong j es ≡ false → locked_outside j (layout_of es) ≡ false
    → LockedGiven j (layout_of es)
unfolding locked_turn_wrong locked_outside allowed_degrees
locked_given j es size turns outside =
    record {
      one_per_piece = length-map es placement_of ∙ size;
      inside_sheet = λ i l locked.
          locked_passes (is_locked j i) _ locked
          (any_none j.size.count (λ k. is_locked j k && not (inside j k (place_of (layout_of es) k))) outside i l);
      turn_allowed = λ i l locked.
          rw (buffer_place es i)
          (passes_turn (allowed j i) (get_or (get_or es i []) 0 0)
          (locked_passes (is_locked j i) _ locked
          (any_none j.size.count (λ k. is_locked j k && not (turn_passes (allowed j k) (get_or (get_or es k []) 0 0))) turns i l)));
    }

-- ── weights ──

-- by the test of the first weight
weight_step : (w : ℕ) (ws : List ℕ) (b : Bool) → up_to weight_bound w ≡ b
    → elim b as (λ _. Bool) [ true ↦ some_weight_wrong ws | false ↦ true ] ≡ false → InRange w × (some_weight_wrong ws ≡ false)
weight_step w ws true h e = ((leb-true 1 w (and_left _ (leb w weight_bound) h), leb-true w weight_bound (and_right (leb 1 w) _ h)), e)
weight_step w ws false h e = absurd (true≢false e)

-- where no weight is wrong each is in range
weights_range : (ws : List ℕ) → some_weight_wrong ws ≡ false → (k : ℕ) → k < length ws → InRange (get_or ws k 0)
unfolding some_weight_wrong
weights_range [] e k l = absurd (not-suc-le-zero l)
weights_range (w ∷ ws) e zero l = (weight_step w ws (up_to weight_bound w) refl e).0
weights_range (w ∷ ws) e (suc k) l = weights_range ws (weight_step w ws (up_to weight_bound w) refl e).1 k (le_of_suc-le-suc l)

-- a weight buffer with one weight a pair, none of which is wrong, holds valid weights
pub weights_valid : (j : Job) (ws : List ℕ) → length ws ≡ length (pairs j.size.count) → some_weight_wrong ws ≡ false → ValidWeights j ws
weights_valid j ws size e = record { one_per_pair = size; in_range = weights_range ws e }

-- ── valid layouts and weights in buffers ──

-- a turn that passes has degrees that pass
pub turn_passes_lem : (test : Turn → Bool) (t : Turn) → test t ≡ true → turn_passes test (degrees t) ≡ true
unfolding turn_of_degrees
turn_passes_lem test Zero e = e
turn_passes_lem test Quarter e = e
turn_passes_lem test Half e = e
turn_passes_lem test ThreeQuarters e = e

-- no cause is there of a buffer that holds a valid layout
pub record BufferPasses (j : Job) (es : List (List ℕ)) : Type 0 where
  pub size : length es ≡ j.size.count
  pub turns : some_turn_wrong j es ≡ false
  pub outside : some_outside j (layout_of es) ≡ false

-- a valid layout, written as entries, is refused by no call for its length, turns or placements
pub valid_buffer : (j : Job) (v : Layout) → ValidLayout j v → BufferPasses j (entries_of v)
unfolding some_turn_wrong some_outside allowed_degrees
valid_buffer j v h =
    let size : length v ≡ j.size.count = h.one_per_piece in
    record {
      size = length-map v entry_of ∙ size;
      turns =
          none_any j.size.count _
          (λ i l.
          let e : get_or (entries_of v) i [] ≡ entry_of (place_of v i) = entry_at v i (omega arith) in
          rw e (ap not (turn_passes_lem (allowed j i) (place_of v i).turn (h.turn_allowed i l))));
      outside = rw (entries_read_back v) (none_any j.size.count _ (λ i l. ap not (h.inside_sheet i l)));
    }

-- nor by a start, which asks the locked ones alone
pub record LockedPass (j : Job) (es : List (List ℕ)) : Type 0 where
  pub turns : locked_turn_wrong j es ≡ false
  pub outside : locked_outside j (layout_of es) ≡ false

-- what is asked of every piece passes for the locked ones
pub locked_buffer : (j : Job) (es : List (List ℕ)) → BufferPasses j es → LockedPass j es
unfolding locked_turn_wrong locked_outside some_turn_wrong some_outside
locked_buffer j es h =
    record {
      turns = none_any j.size.count _ (λ i l. second_fails (is_locked j i) (any_none j.size.count _ h.turns i l));
      outside = none_any j.size.count _ (λ i l. second_fails (is_locked j i) (any_none j.size.count _ h.outside i l));
    }

-- valid weights are none of them wrong
pub weights_pass : (ws : List ℕ) → ((k : ℕ) → k < length ws → InRange (get_or ws k 0)) → some_weight_wrong ws ≡ false
unfolding some_weight_wrong
weights_pass [] h = refl
weights_pass (w ∷ ws) h =
    let here : InRange w = h 0 (omega arith) in
    let e : up_to weight_bound w ≡ true = and_both (le-leb 1 w here.0) (le-leb w weight_bound here.1) in
    rw (e, some_weight_wrong) (weights_pass ws (λ k l. h (suc k) (omega arith)))

-- ── what the causes say ──

-- the lent job passes the check
pub job_well : (l : Lent) → (job_cause l).there ≡ false → lent_well l ≡ true
job_well l e = not-false (lent_well l) e

-- the layout buffer holds a valid layout, where none of its causes is there
pub layout_valid : (l : Lent) (es : List (List ℕ)) → (layout_length l es).there ≡ false → (turns_cause l es).there ≡ false
    → (outside_cause l es).there ≡ false → ValidLayout (job_of l) (layout_of es)
unfolding job_of
layout_valid l es size turns outside = buffer_valid (job_of l) es (eqb-true (length es) l.size.count (not-false _ size)) turns outside

-- the weight buffer holds valid weights, where none of its causes is there
pub lent_weights_valid : (l : Lent) (ws : List ℕ) → (weights_length l ws).there ≡ false → some_weight_wrong ws ≡ false → ValidWeights (job_of l) ws
unfolding job_of
lent_weights_valid l ws size e = weights_valid (job_of l) ws (eqb-true (length ws) (length (pairs l.size.count)) (not-false _ size)) e

-- ── a piece placed in a turn ──

-- what is known of a call that would place piece i in the turn
pub record PlacingGiven (l : Lent) (es : List (List ℕ)) (ws : List ℕ) (i : ℕ) (t : Turn) : Type 0 where
  -- of the job, the layout and the weights as they are lent
  pub job : (job_cause l).there ≡ false
  pub size : (layout_length l es).there ≡ false
  pub weights_size : (weights_length l ws).there ≡ false
  pub weights_right : some_weight_wrong ws ≡ false
  pub turns : some_turn_wrong (job_of l) es ≡ false
  pub outside : some_outside (job_of l) (layout_of es) ≡ false
  -- of the piece and its turn
  pub piece : i < l.size.count
  pub turn : allowed (job_of l) i t ≡ true

-- where none of its causes is there
pub placing_given : (l : Lent) (es : List (List ℕ)) (ws : List ℕ) (i : ℕ) (t : Turn) → NoCause (placing_causes l es ws i t) → PlacingGiven l es ws i t
placing_given l es ws i t h =
    let piece = or_neither (some_turn_wrong (job_of l) es || not (ltb i l.size.count)) (not (allowed (job_of l) i t)) h.1.1.1.1.0 in
    let turns = or_neither (some_turn_wrong (job_of l) es) (not (ltb i l.size.count)) piece.0 in
    record {
      job = h.0;
      size = h.1.0;
      weights_size = h.1.1.0;
      weights_right = h.1.1.1.0;
      turns = turns.0;
      outside = h.1.1.1.1.1.0;
      piece = ltb-true i l.size.count (not-false _ turns.1);
      turn = not-false _ piece.1;
    }

-- and none is there where this is known
pub placing_free : (l : Lent) (es : List (List ℕ)) (ws : List ℕ) (i : ℕ) (t : Turn) → PlacingGiven l es ws i t → NoCause (placing_causes l es ws i t)
placing_free l es ws i t g =
    let here = lt-ltb i l.size.count g.piece in
    (g.job, (g.size, (g.weights_size, (g.weights_right, (rw (g.turns, here, g.turn), (g.outside, tt))))))
