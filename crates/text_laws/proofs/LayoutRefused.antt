-- Document 01, 'When a call says no', reading a layout: each refusal has its cause, and the line that it names begins where the count of
-- line ends says. The reader goes from line to line; at each the lines before it are read. Assumes nothing.
use Rattle.list_laws.proofs.Kit.{◌≡◌, ap, refl, subst, sym, Bool, ◌&&◌, not, true, inl, inr, ⊎_elim, List, [], ◌+◌, suc, zero, ℕ, zero-add, arith, eqb}
use Rattle.list_laws.proofs.Kit.{length, eq-eqb, eqb-false, not-false, not-true}
use Rattle.model.specs.Piece.{degrees}
use Rattle.model.specs.Layout.{Job, Layout, allowed, inside}
use Rattle.model.specs.Refusal.{refused, Cause, cause, refusal_of, wrong_form, out_of_range, no_such_piece, outside_sheet, wrong_length}
use Rattle.model.specs.Text.{three_fields, four_fields, line_at, field, cause_in, and_then}
use Rattle.model.specs.LayoutText.{layout_word, at_word, layout_line_causes, layout_line, PlacementLine, as_placement_line, placement_causes, placement_line}
use Rattle.model.specs.LayoutText.{placements_at, read_layout}
use Rattle.model.specs.declared.Refusal.{Refusal}
use Rattle.list_laws.proofs.Tests.{and_both, clash}
use Rattle.text_laws.specs.LinePlaces.{LineBegins, LineThere}
use Rattle.text_laws.specs.LayoutRefusals.{PlacementsBefore, no_placement, placement_then, PlacementPlace, LayoutEnd, PlacementNumbers, LayoutFormWrong}
use Rattle.text_laws.specs.LayoutRefusals.{wrong_layout_line, wrong_placement_line, line_too_many, names_piece, LayoutOutOfRange, sheet_unlike}
use Rattle.text_laws.specs.LayoutRefusals.{placement_out_of_range, TurnNotAllowed, PlacementOutside, LayoutLengthWrong, LayoutRefusalClaims}
use Rattle.text_laws.proofs.Outcomes.{refused_given, unless_given}
use Rattle.text_laws.proofs.Refused.{refused_unless, refused_before, refused_formed, chosen, choose}
use Rattle.text_laws.proofs.LineCounts.{first_line, three_line, four_line}
use Rattle.text_laws.proofs.LayoutExact.{layout_line_spelled, placement_line_spelled}

-- the cause of each number on the line; no other number has one
abbrev CauseOf : Job → List ℕ → ℕ → ℕ → ℕ → Type 0
CauseOf j text room line n =
    chosen (eqb n wrong_form) (LayoutFormWrong j text line)
    (chosen (eqb n out_of_range) (LayoutOutOfRange j text line)
    (chosen (eqb n no_such_piece) (TurnNotAllowed j text line)
    (chosen (eqb n outside_sheet) (PlacementOutside j text line)
    (chosen (eqb n wrong_length) (LayoutLengthWrong j text room line) ⊥))))

-- a refusal with its cause
record Caused (j : Job) (text : List ℕ) (room : ℕ) (r : Refusal) : Type 0 where
  why : CauseOf j text room r.first r.number
  second : r.second ≡ 0

module _ (j : Job) (text : List ℕ) (room : ℕ) where
  -- the refusal of a cause that is there
  caused : {r : Refusal} (c : Cause) → refusal_of c ≡ r → c.second ≡ 0 → CauseOf j text room c.first c.number → Caused j text room r
  caused {r} c e z why = subst (Caused j text room) e (record { why = why; second = z })

  -- a layout line that refuses
  layout_line_refused : (r : Refusal) → layout_line j text ≡ refused r → Caused j text room r
  unfolding layout_line
  layout_line_refused r e =
      ⊎_elim
      (λ w. caused (cause_in 1 wrong_form true) w.1 refl (wrong_layout_line refl w.0))
      (λ f.
      let ks : List ℕ = f.value in
      let a : Bool = eqb (field ks 0) j.size.rows in
      let b : Bool = eqb (field ks 1) j.size.columns in
      let c : Bool = eqb (field ks 2) j.size.count in
      ⊎_elim
      (λ w.
      caused (cause_in 1 out_of_range (not (a && b && c))) w.1 refl
      (sheet_unlike ks f.next refl f.reads
      (λ same.
      clash
      (and_both
      (and_both (eq-eqb (field ks 0) j.size.rows (ap (λ (l : List ℕ). field l 0) same))
      (eq-eqb (field ks 1) j.size.columns (ap (λ (l : List ℕ). field l 1) same)))
      (eq-eqb (field ks 2) j.size.count (ap (λ (l : List ℕ). field l 2) same)))
      (not-true (a && b && c) w.0))))
      (λ n. absurd n.1)
      (refused_unless (layout_line_causes j ks) f.next r f.goes))
      (refused_formed 1 (line_at layout_word three_fields text 0) _ r e)

  -- the line of a piece that refuses
  placement_line_refused : (line : ℕ) (a : PlacementPlace j text line) (r : Refusal)
      → placement_line j text a.number a.at line ≡ refused r
      → Caused j text room r
  unfolding placement_line
  placement_line_refused line a r e =
      let i : ℕ = a.number in
      ⊎_elim
      (λ w. caused (cause_in line wrong_form true) w.1 refl (wrong_placement_line a w.0))
      (λ f.
      let ks : List ℕ = f.value in
      let here : PlacementLine = as_placement_line ks f.next in
      let numbers : PlacementNumbers j text line =
      record { place = a; said = here; numbers = ks; next = f.next; reads = f.reads; says = refl } in
      let names : Bool = names_piece i ks in
      let may : Bool = allowed j i here.place.turn in
      let within : Bool = inside j i here.place in
      ⊎_elim
      (λ w. caused (cause_in line out_of_range (not names)) w.1 refl (placement_out_of_range numbers (not-true names w.0)))
      (λ n.
      ⊎_elim
      (λ w.
      caused (cause_in line no_such_piece (not may)) w.1 refl
      (record { piece = numbers; ranges = not-false names n.0; unallowed = not-true may w.0 }))
      (λ n'.
      ⊎_elim
      (λ w.
      caused (cause_in line outside_sheet (not within)) w.1 refl
      (record { piece = numbers; ranges = not-false names n.0; turn = not-false may n'.0; outside = not-true within w.0 }))
      (λ n''. absurd n''.1)
      n'.1)
      n.1)
      (refused_unless (placement_causes line j i ks here.place) here r f.goes))
      (refused_formed line (line_at at_word four_fields text a.at) _ r e)

  -- the lines of pieces that refuse
  placements_refused : (left i p line : ℕ) → i + left ≡ j.size.count → PlacementsBefore j text i p line → LineBegins text line p → (r : Refusal)
      → placements_at j text left i p line ≡ refused r → Caused j text room r
  unfolding placements_at
  placements_refused zero i p line all before begins r e =
      let all' : i ≡ j.size.count = omega arith in
      let place : LayoutEnd j text line =
      record { at = p; before = subst (λ (n : ℕ). PlacementsBefore j text n p line) all' before; begins = begins } in
      ⊎_elim
      (λ w.
      let ne : p ≡ length text → ⊥ = eqb-false p (length text) (not-true (eqb p (length text)) w.0) in
      caused (cause_in line wrong_form (not (eqb p (length text)))) w.1 refl
      (line_too_many place (let within = begins.within in omega arith)))
      (λ n. absurd n.1)
      (refused_unless _ [] r e)
  placements_refused (suc left) i p line all before begins r e =
      let place : PlacementPlace j text line = record { number = i; at = p; below = omega arith; before = before; begins = begins } in
      ⊎_elim
      (λ w. placement_line_refused line place r w)
      (λ f.
      let h : PlacementLine = f.value in
      ⊎_elim
      (λ w.
      placements_refused left (suc i) h.next (suc line) (omega arith) (placement_then before f.gives)
      (four_line at_word i (degrees h.place.turn) h.place.x.0 h.place.y.0 refl begins
      (placement_line_spelled j text i p line h f.gives))
      r w)
      (λ g. absurd (refused_given (sym g.goes)))
      (refused_before (placements_at j text left (suc i) h.next (suc line)) _ r f.goes))
      (refused_before (placement_line j text i p line) _ r e)

  -- every refusal has its cause
  all_caused : (r : Refusal) → read_layout j text room ≡ refused r → Caused j text room r
  unfolding read_layout
  all_caused r e =
      ⊎_elim
      (λ w. layout_line_refused r w)
      (λ f.
      let p : ℕ = f.value in
      ⊎_elim
      (λ w.
      placements_refused j.size.count 0 p 2 (zero-add j.size.count) (no_placement f.gives)
      (three_line layout_word j.size.rows j.size.columns j.size.count refl (first_line text) (layout_line_spelled j text p f.gives))
      r w)
      (λ g.
      let v : Layout = g.value in
      ⊎_elim
      (λ w.
      caused (cause wrong_length (not (eqb room j.size.count))) w.1 refl
      (record {
        unplaced = refl;
        layout = v;
        readable = rw (f.gives, g.gives, and_then, read_layout) (unless_given _ v (ap not (eq-eqb j.size.count j.size.count refl), tt));
        unequal = eqb-false room j.size.count (not-true (eqb room j.size.count) w.0);
      }))
      (λ n. absurd n.1)
      (refused_unless _ v r g.goes))
      (refused_before (placements_at j text j.size.count 0 p 2) _ r f.goes))
      (refused_before (layout_line j text) _ r e)

-- ── a refusal ──

-- the line of a cause but 7
cause_line : (j : Job) (text : List ℕ) (room line n : ℕ) → CauseOf j text room line n → (n ≡ wrong_length → ⊥) → LineThere text line
cause_line j text room line n why not-length =
    choose n wrong_form (λ e w. form_line w)
    (choose n out_of_range (λ e w. range_line w)
    (choose n no_such_piece (λ e w. numbers_line w.piece)
    (choose n outside_sheet (λ e w. numbers_line w.piece) (choose n wrong_length (λ e w. absurd (not-length e)) (λ w. absurd w)))))
    why
  where
    -- the first line
    first_there : line ≡ 1 → LineThere text line
    first_there e = record { at = 0; begins = rw e (first_line text) }

    -- a line whose numbers are read
    numbers_line : PlacementNumbers j text line → LineThere text line
    numbers_line a = record { at = a.place.at; begins = a.place.begins }

    -- a line of wrong form
    form_line : LayoutFormWrong j text line → LineThere text line
    form_line (wrong_layout_line e w) = first_there e
    form_line (wrong_placement_line a w) = record { at = a.at; begins = a.begins }
    form_line (line_too_many a w) = record { at = a.at; begins = a.begins }

    -- a line with a number out of range
    range_line : LayoutOutOfRange j text line → LineThere text line
    range_line (sheet_unlike ks next e w ne) = first_there e
    range_line (placement_out_of_range a w) = numbers_line a

-- every refusal of reading a layout has its cause, and its line begins where it says
pub layout_refusals : (j : Job) (text : List ℕ) (layout_length : ℕ) (r : Refusal) → read_layout j text layout_length ≡ refused r
    → LayoutRefusalClaims j text layout_length r
layout_refusals j text layout_length r e =
    let c : Caused j text layout_length r = all_caused j text layout_length r e in
    let n : ℕ = r.number in
    let at : (k : ℕ) → n ≡ k → CauseOf j text layout_length r.first k =
    λ k same. subst (CauseOf j text layout_length r.first) same c.why in
    record {
      numbers =
          choose n wrong_form (λ same w. inl same)
          (choose n out_of_range (λ same w. inr (inl same))
          (choose n no_such_piece (λ same w. inr (inr (inl same)))
          (choose n outside_sheet (λ same w. inr (inr (inr (inl same))))
          (choose n wrong_length (λ same w. inr (inr (inr (inr same)))) (λ w. absurd w)))))
          c.why;
      form = at wrong_form;
      range = at out_of_range;
      turn = at no_such_piece;
      outside = at outside_sheet;
      buffer = at wrong_length;
      line = cause_line j text layout_length r.first n c.why;
      second = c.second;
    }
