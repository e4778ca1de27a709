-- The causes of a line, as the reader meets them one after the other. Assumes nothing.
use Rattle.list_laws.proofs.Kit.{◌∙◌, ◌≡◌, ap, ap₂, refl, sym, Bool, ◌&&◌, false, true, Option, none, some, List, [], ◌∷◌, ◌+◌, ◌<◌, ◌≤◌, min, ℕ, arith, eqb, leb}
use Rattle.list_laws.proofs.Kit.{leb-false, leb-true, lt-leb, ne_eqb}
use Rattle.model.specs.Layout.{Job, allowed, inside, turned_piece}
use Rattle.model.specs.Refusal.{Outcome, refused, given, Cause, unless, refusal_of, wrong_form, out_of_range, no_such_piece, outside_sheet}
use Rattle.model.specs.Lent.{row_bound, column_bound}
use Rattle.model.specs.Buffer.{turn_of_degrees, turn_passes, is_turn, turn_of}
use Rattle.model.specs.Text.{wrong, got, three_fields, four_fields, line_at, field, cause_in, formed, and_then}
use Rattle.model.specs.LayoutText.{layout_word, at_word, layout_line, PlacementLine, as_placement_line, placement_causes, placement_line}
use Rattle.model.specs.declared.Placement.{Placement}
use Rattle.model.specs.declared.Refusal.{Refusal}
use Rattle.model.specs.declared.Turn.{Turn}
use Rattle.list_laws.proofs.Tests.{and_left, and_right}
use Rattle.layout_places.specs.Boxes.{place_at}
use Rattle.layout_read_calls.specs.Readings.{turn_on_line, place_on_line, place_answer, line_answer}
use Rattle.layout_read_calls.specs.declared.PlacedLine.{PlacedLine}
use Rattle.std.specs.Prelude.{Ok, Err}

-- ── turns ──

-- degrees above 270 are those of no turn
pub no_turn_above : (d : ℕ) → 270 < d → turn_of_degrees d ≡ none
unfolding turn_of_degrees
no_turn_above d h =
    rw (ne_eqb d 0 (λ e. omega arith), ne_eqb d 90 (λ e. omega arith), ne_eqb d 180 (λ e. omega arith), ne_eqb d 270 (λ e. omega arith), turn_of_degrees)

-- by the test whether the line names the piece
turn_known_at : (d : ℕ) (t : Turn) (b : Bool) → elim b as (λ _. Option Turn) [ true ↦ turn_of_degrees d | false ↦ none ] ≡ some t
    → ((b && is_turn d) ≡ true) × (turn_of d ≡ t)
unfolding is_turn turn_of
turn_known_at d t true e = (rw (e, turn_passes), rw (e, turn_of))
turn_known_at d t false e = let z : ◌≡◌ {A = ℕ} 0 1 = cc in absurd (omega arith)

turn_unknown_at : (d : ℕ) (b : Bool) → ◌≡◌ {A = Option Turn} (elim b as (λ _. Option Turn) [ true ↦ turn_of_degrees d | false ↦ none ]) none
    → (b && is_turn d) ≡ false
unfolding is_turn
turn_unknown_at d true e = rw (e, turn_passes)
turn_unknown_at d false e = refl

-- ── the layout line ──

module _ (j : Job) (text : List ℕ) where
  pub layout_line_wrong : line_at layout_word three_fields text 0 ≡ wrong → layout_line j text ≡ refused (refusal_of (cause_in 1 wrong_form true))
  unfolding layout_line
  layout_line_wrong e = rw (e, formed)

  module _ (ks : List ℕ) (next : ℕ) (e : line_at layout_word three_fields text 0 ≡ got ks next) where
    pub layout_line_unlike : (eqb (field ks 0) j.size.rows && eqb (field ks 1) j.size.columns && eqb (field ks 2) j.size.count) ≡ false
        → layout_line j text ≡ refused (refusal_of (cause_in 1 out_of_range true))
    unfolding layout_line unless
    layout_line_unlike h = rw (e, formed, h, unless)

    pub layout_line_given : (eqb (field ks 0) j.size.rows && eqb (field ks 1) j.size.columns && eqb (field ks 2) j.size.count) ≡ true
        → layout_line j text ≡ given next
    unfolding layout_line unless
    layout_line_given h = rw (e, formed, h, unless)

-- ── the line of a piece ──

module _ (j : Job) (i line n d x y : ℕ) where
  -- the line names another piece or degrees of no turn
  pub place_unknown : turn_on_line i n d ≡ none → place_on_line j i line (n ∷ d ∷ x ∷ y ∷ []) ≡ refused (refusal_of (cause_in line out_of_range true))
  unfolding unless
  place_unknown e = rw (turn_unknown_at d (eqb n i) e, unless)

  module _ (t : Turn) (e : turn_on_line i n d ≡ some t) where
    -- the turn is not allowed
    pub place_forbidden : allowed j i t ≡ false → place_on_line j i line (n ∷ d ∷ x ∷ y ∷ []) ≡ refused (refusal_of (cause_in line no_such_piece true))
    unfolding unless
    place_forbidden h = let k = turn_known_at d t (eqb n i) e in rw (k.0, k.1, h)

    -- the placement is outside
    pub place_outside : allowed j i t ≡ true → inside j i (place_at t x y) ≡ false
        → place_on_line j i line (n ∷ d ∷ x ∷ y ∷ []) ≡ refused (refusal_of (cause_in line outside_sheet true))
    unfolding unless
    place_outside h w = let k = turn_known_at d t (eqb n i) e in rw (k.0, k.1, h, w)

    -- the placement
    pub place_given : allowed j i t ≡ true → inside j i (place_at t x y) ≡ true → place_on_line j i line (n ∷ d ∷ x ∷ y ∷ []) ≡ given (place_at t x y)
    unfolding unless
    place_given h w = let k = turn_known_at d t (eqb n i) e in rw (k.0, k.1, h, w)

-- the corner of a placement inside lies in the sheet
corner_inside : (j : Job) (i : ℕ) (t : Turn) (x y : ℕ) → inside j i (place_at t x y) ≡ true → (x ≤ j.size.columns) × (y ≤ j.size.rows)
unfolding inside
corner_inside j i t x y e =
    let s = turned_piece j i t in
    let a : x + s.columns ≤ j.size.columns = leb-true _ _ (and_left _ (leb (y + s.rows) j.size.rows) e) in
    let b : y + s.rows ≤ j.size.rows = leb-true _ _ (and_right (leb (x + s.columns) j.size.columns) _ e) in
    (omega arith, omega arith)

-- a clipped field is past the sheet's end where the field is, since no sheet has 65,535 rows or columns
clipped_past : (u x k n : ℕ) → u ≡ min x 65535 → n < 65535 → leb (u + k) n ≡ leb (x + k) n
clipped_past u x k n e h = at (leb x 65535) refl
  where
    at : (b : Bool) → leb x 65535 ≡ b → leb (u + k) n ≡ leb (x + k) n
    at true t = let g = leb-true x 65535 t in let s : u ≡ x = omega arith in rw s
    at false t = let g = leb-false x 65535 t in lt-leb (u + k) n (omega arith) ∙ sym (lt-leb (x + k) n (omega arith))

module _ (j : Job) (i : ℕ) (t : Turn) (x y u v : ℕ) (rows : j.size.rows ≤ row_bound) (columns : j.size.columns ≤ column_bound) (a : u ≡ min x 65535)
    (b : v ≡ min y 65535) where
  -- the corner by its clipped fields is inside exactly where the corner is
  pub clipped_inside : inside j i (place_at t u v) ≡ inside j i (place_at t x y)
  unfolding inside
  clipped_inside =
      let s = turned_piece j i t in
      ap₂ ◌&&◌ (clipped_past u x s.columns j.size.columns a (omega arith)) (clipped_past v y s.rows j.size.rows b (omega arith))

  -- and then it is the corner
  pub clipped_same : inside j i (place_at t x y) ≡ true → place_at t u v ≡ place_at t x y
  clipped_same e =
      let h = corner_inside j i t x y e in
      let same-x : u ≡ x = (let g = h.0 in omega arith) in
      let same-y : v ≡ y = (let g = h.1 in omega arith) in
      ap₂ (place_at t) same-x same-y

-- by the first cause
unless_made_at : {A B : Type 0} (f : A → B) (c : Cause) (cs : List Cause) (a : A) → unless cs (f a) ≡ and_then (unless cs a) (λ a'. given (f a')) → (b : Bool)
    → elim b as (λ _. Outcome B) [ true ↦ refused (refusal_of c) | false ↦ unless cs (f a) ]
    ≡ and_then (elim b as (λ _. Outcome A) [ true ↦ refused (refusal_of c) | false ↦ unless cs a ]) (λ a'. given (f a'))
unless_made_at f c cs a later true = refl
unless_made_at f c cs a later false = later

-- a value that is made of another is given where the other is
unless_made : {A B : Type 0} (f : A → B) (cs : List Cause) (a : A) → unless cs (f a) ≡ and_then (unless cs a) (λ a'. given (f a'))
unfolding unless
unless_made f [] a = refl
unless_made f (c ∷ cs) a = unless_made_at f c cs a (unless_made f cs a) c.there

-- the line is wrong
pub line_wrong : (j : Job) (text : List ℕ) (i p line : ℕ) → line_at at_word four_fields text p ≡ wrong
    → placement_line j text i p line ≡ refused (refusal_of (cause_in line wrong_form true))
unfolding placement_line
line_wrong j text i p line e = rw (e, formed)

-- else its numbers give the placement
pub line_placed : (j : Job) (text : List ℕ) (i p line : ℕ) (ks : List ℕ) (next : ℕ) → line_at at_word four_fields text p ≡ got ks next
    → placement_line j text i p line ≡ and_then (place_on_line j i line ks) (λ q. given (record { place = q; next = next }))
unfolding placement_line
line_placed j text i p line ks next e =
    rw (e, formed) (unless_made (λ (q : Placement). record { place = q; next = next }) (placement_causes line j i ks (as_placement_line ks 0).place) _)

-- what the answers say of the outcomes
pub place_refused : (o : Outcome Placement) (r : Refusal) → Err r ≡ place_answer o → o ≡ refused r
place_refused (refused s) r e = cc
place_refused (given p) r e = cc

pub place_placed : (o : Outcome Placement) (q : Placement) → Ok q ≡ place_answer o → o ≡ given q
place_placed (refused s) q e = cc
place_placed (given p) q e = cc

pub line_refused : (o : Outcome PlacementLine) (r : Refusal) → Err r ≡ line_answer o → o ≡ refused r
line_refused (refused s) r e = cc
line_refused (given p) r e = cc

pub line_read_lem : (o : Outcome PlacementLine) (h : PlacedLine) → Ok h ≡ line_answer o → o ≡ given (record { place = h.place; next = h.next })
line_read_lem (refused s) h e = cc
line_read_lem (given k) h e =
    let a : record { place = k.place; next = k.next } ≡ h = cc in ap (λ (x : PlacedLine). given (record { place = x.place; next = x.next })) a
