-- Document 01, 'When a call says no', reading a layout: each cause leads to its refusal. The lines before the cause's line are read, so
-- the reader comes to that line and stops there. Assumes nothing.
use Rattle.list_laws.proofs.Kit.{◌∙◌, ◌≡◌, ap, refl, subst, sym, Bool, ◌&&◌, false, not, true, inl, inr, List, [], ◌+◌, ◌-◌, suc, ℕ, add-zero, arith, eqb}
use Rattle.list_laws.proofs.Kit.{length, eqb-true, ne_eqb}
use Rattle.model.specs.Layout.{Job, Layout}
use Rattle.model.specs.Refusal.{refused, wrong_form, out_of_range, no_such_piece, outside_sheet, wrong_length}
use Rattle.model.specs.Text.{three_fields, field, formed, and_then}
use Rattle.model.specs.LayoutText.{layout_word, sheet_numbers, layout_line_causes, layout_line, PlacementLine, as_placement_line, placement_causes, placement_line}
use Rattle.model.specs.LayoutText.{placements_at, read_layout}
use Rattle.model.specs.declared.Refusal.{Refusal}
use Rattle.list_laws.proofs.Tests.{and_left, and_right, fails}
use Rattle.text_laws.specs.LinePlaces.{refusal_on_line}
use Rattle.text_laws.specs.LayoutRefusals.{PlacementsBefore, no_placement, placement_then, PlacementPlace, PlacementNumbers, LayoutFormWrong}
use Rattle.text_laws.specs.LayoutRefusals.{wrong_layout_line, wrong_placement_line, line_too_many, LayoutOutOfRange, sheet_unlike, placement_out_of_range}
use Rattle.text_laws.specs.LayoutRefusals.{TurnNotAllowed, PlacementOutside, LayoutLengthWrong, LayoutCausesRefuse}
use Rattle.text_laws.proofs.Outcomes.{given_before}
use Rattle.text_laws.proofs.Spelling.{line_spelled, three_fields_lem}
use Rattle.text_laws.proofs.Refused.{Refuses, unless_refused}

-- ── the reader comes to the line ──

-- where the reading of the later lines is refused, so is the whole
placements_resume : {j : Job} {text : List ℕ} {i p line : ℕ} (room : ℕ) (r : Refusal) → PlacementsBefore j text i p line → (left : ℕ)
    → i + left ≡ j.size.count
    → placements_at j text left i p line ≡ refused r → read_layout j text room ≡ refused r
unfolding placements_at read_layout
placements_resume {j} {text} room r (no_placement {p = p} gives) left all e =
    let all' : left ≡ j.size.count = omega arith in
    let e' : placements_at j text j.size.count 0 p 2 ≡ refused r = rw all' at e in
    rw (gives, e', and_then, read_layout)
placements_resume {j} {text} room r (placement_then {i = i} {p = p} {line = line} {h = h} before gives) left all e =
    let here : placements_at j text (suc left) i p line ≡ refused r = rw (gives, e, and_then, placements_at) in
    placements_resume room r before (suc left) (omega arith) here

module _ (j : Job) (text : List ℕ) (room : ℕ) (r : Refusal) where
  -- a layout line that refuses
  layout_line_stops : layout_line j text ≡ refused r → read_layout j text room ≡ refused r
  unfolding read_layout
  layout_line_stops e = rw (e, and_then, read_layout)

  -- the line of a piece that refuses
  placement_stops : (line : ℕ) (a : PlacementPlace j text line) → placement_line j text a.number a.at line ≡ refused r
      → read_layout j text room ≡ refused r
  unfolding placements_at
  placement_stops line a e =
      let left : ℕ = j.size.count - suc a.number in
      placements_resume room r a.before (suc left) (let b = a.below in omega arith) (rw (e, and_then, placements_at))

  -- numbers of the line of a piece with a cause
  numbers_stop : (line : ℕ) (a : PlacementNumbers j text line)
      → Refuses (placement_causes line j a.place.number a.numbers a.said.place) r → read_layout j text room ≡ refused r
  unfolding placement_line
  numbers_stop line a c =
      let h : PlacementLine = as_placement_line a.numbers a.next in
      let causes = placement_causes line j a.place.number a.numbers in
      placement_stops line a.place
      (rw (a.reads, formed)
      (unless_refused (causes h.place) h r (subst (λ (k : PlacementLine). Refuses (causes k.place) r) a.says c)))

-- ── each cause ──

-- a line of wrong form
form_refuses : (j : Job) (text : List ℕ) (room line : ℕ) → LayoutFormWrong j text line
    → read_layout j text room ≡ refused (refusal_on_line wrong_form line)
unfolding layout_line placement_line placements_at
form_refuses j text room line (wrong_layout_line n e) =
    rw n (layout_line_stops j text room (refusal_on_line wrong_form 1) (rw (e, formed)))
form_refuses j text room line (wrong_placement_line a e) = placement_stops j text room (refusal_on_line wrong_form line) line a (rw (e, formed))
form_refuses j text room line (line_too_many a b) =
    let r : Refusal = refusal_on_line wrong_form line in
    let more : not (eqb a.at (length text)) ≡ true = ap not (ne_eqb a.at (length text) (λ e. omega arith)) in
    placements_resume room r a.before 0 (add-zero j.size.count) (unless_refused _ [] r (inl (more, refl)))

-- numbers of the layout line unlike the job's
unlike : (j : Job) (ks : List ℕ) → length ks ≡ 3 → (ks ≡ sheet_numbers j → ⊥)
    → (eqb (field ks 0) j.size.rows && eqb (field ks 1) j.size.columns && eqb (field ks 2) j.size.count) ≡ false
unlike j ks size ne =
    let a : Bool = eqb (field ks 0) j.size.rows in
    let b : Bool = eqb (field ks 1) j.size.columns in
    let c : Bool = eqb (field ks 2) j.size.count in
    fails (a && b && c)
    (λ abc.
    let ab : (a && b) ≡ true = and_left (a && b) c abc in
    let ha : field ks 0 ≡ j.size.rows = eqb-true (field ks 0) j.size.rows (and_left a b ab) in
    let hb : field ks 1 ≡ j.size.columns = eqb-true (field ks 1) j.size.columns (and_right a b ab) in
    let hc : field ks 2 ≡ j.size.count = eqb-true (field ks 2) j.size.count (and_right (a && b) c abc) in
    ne (sym (three_fields_lem ks size) ∙ rw (ha, hb, hc)))

-- a number out of range
range_refuses : (j : Job) (text : List ℕ) (room line : ℕ) → LayoutOutOfRange j text line
    → read_layout j text room ≡ refused (refusal_on_line out_of_range line)
unfolding layout_line
range_refuses j text room line (sheet_unlike ks next n e ne) =
    let r : Refusal = refusal_on_line out_of_range 1 in
    let size : length ks ≡ 3 = (line_spelled layout_word three_fields text 0 ks next e).size in
    rw n
    (layout_line_stops j text room r
    (rw (e, formed) (unless_refused (layout_line_causes j ks) next r (inl (ap not (unlike j ks size ne), refl)))))
range_refuses j text room line (placement_out_of_range a e) =
    numbers_stop j text room (refusal_on_line out_of_range line) line a (inl (ap not e, refl))

-- a turn that is not allowed
turn_refuses : (j : Job) (text : List ℕ) (room line : ℕ) → TurnNotAllowed j text line
    → read_layout j text room ≡ refused (refusal_on_line no_such_piece line)
turn_refuses j text room line c =
    numbers_stop j text room (refusal_on_line no_such_piece line) line c.piece (inr (ap not c.ranges, inl (ap not c.unallowed, refl)))

-- a placement outside
outside_refuses : (j : Job) (text : List ℕ) (room line : ℕ) → PlacementOutside j text line
    → read_layout j text room ≡ refused (refusal_on_line outside_sheet line)
outside_refuses j text room line c =
    numbers_stop j text room (refusal_on_line outside_sheet line) line c.piece
    (inr (ap not c.ranges, inr (ap not c.turn, inl (ap not c.outside, refl))))

-- a buffer of another length
buffer_refuses : (j : Job) (text : List ℕ) (room line : ℕ) → LayoutLengthWrong j text room line
    → read_layout j text room ≡ refused (refusal_on_line wrong_length line)
unfolding read_layout
buffer_refuses j text room line c =
    let v : Layout = c.layout in
    let b = given_before (layout_line j text) _ v c.readable in
    let b' = given_before (placements_at j text j.size.count 0 b.value 2) _ v b.goes in
    let r : Refusal = refusal_on_line wrong_length 0 in
    rw c.unplaced
    (rw (b.gives, b'.gives, and_then, read_layout)
    (unless_refused _ b'.value r (inl (ap not (ne_eqb room j.size.count c.unequal), refl))))

-- every cause leads to its refusal
pub layout_causes_lem : (j : Job) (text : List ℕ) (layout_length : ℕ) → LayoutCausesRefuse j text layout_length
layout_causes_lem j text room =
    record {
      form = form_refuses j text room;
      range = range_refuses j text room;
      turn = turn_refuses j text room;
      outside = outside_refuses j text room;
      buffer = buffer_refuses j text room;
    }
