-- Document 01, 'Start, layout text, sheet' and 'When a call says no': a text that is read as a layout is just the text that the
-- layout's writer writes, so no other text is accepted. Line by line: a line that is read is written there in its one spelling, and its
-- numbers are the job's or the placement's; nothing follows the last line. Assumes nothing.
use Rattle.list_laws.proofs.Kit.{◌∙◌, ◌≡◌, ap, ap₂, refl, sym, Bool, ◌&&◌, true, ◌↔◌, List, [], ◌∷◌, ◌<◌, ◌≤◌, suc, zero, ℕ, zero-add, eqb, length, eqb-true}
use Rattle.list_laws.proofs.Kit.{not-false}
use Rattle.model.specs.Layout.{Job, Layout, place_of}
use Rattle.model.specs.Refusal.{Outcome, given}
use Rattle.model.specs.Lent.{row_bound, column_bound, piece_bound}
use Rattle.model.specs.Buffer.{is_turn, entry_of}
use Rattle.model.specs.Text.{three_fields, four_fields, line_at, line_text, field}
use Rattle.model.specs.LayoutText.{layout_word, at_word, placement_text, placements_text, sheet_numbers, layout_text, PlacementLine, as_placement_line}
use Rattle.model.specs.LayoutText.{layout_line_causes, placement_causes, layout_line, placement_line, placements_at, read_layout}
use Rattle.list_laws.proofs.Tests.{and_left, and_right}
use Rattle.text_laws.specs.Exact.{LayoutWritten}
use Rattle.text_laws.specs.Texts.{Placed}
use Rattle.text_laws.proofs.LayoutRead.{AllPlaced, layout_read_placed}
use Rattle.text_laws.proofs.LayoutReadBack.{layout_read_back}
use Rattle.text_laws.specs.Outcomes.{Unless}
use Rattle.text_laws.proofs.Outcomes.{given_unless, given_before, given_formed}
use Rattle.text_laws.proofs.Entries.{entry_written_back}
use Rattle.text_laws.proofs.Spelling.{Spells, spells_none, spells_then, spells_same, spells_whole, SpelledLine, line_spelled, three_fields_lem, four_fields_lem}

-- the layout line that is given is written with the job's numbers
pub layout_line_spelled : (j : Job) (text : List ℕ) (p : ℕ) → layout_line j text ≡ given p
    → Spells text 0 p (line_text layout_word three_fields (sheet_numbers j))
unfolding layout_line
layout_line_spelled j text p e =
    let f = given_formed 1 (line_at layout_word three_fields text 0) _ p e in
    let ks : List ℕ = f.value in
    let u : Unless (layout_line_causes j ks) f.next p = given_unless (layout_line_causes j ks) f.next p f.goes in
    let r : SpelledLine layout_word three_fields text 0 f.next ks = line_spelled layout_word three_fields text 0 ks f.next f.reads in
    let a : Bool = eqb (field ks 0) j.size.rows in
    let b : Bool = eqb (field ks 1) j.size.columns in
    let c : Bool = eqb (field ks 2) j.size.count in
    let abc : (a && b && c) ≡ true = not-false (a && b && c) u.none.0 in
    let ab : (a && b) ≡ true = and_left (a && b) c abc in
    let ha : field ks 0 ≡ j.size.rows = eqb-true (field ks 0) j.size.rows (and_left a b ab) in
    let hb : field ks 1 ≡ j.size.columns = eqb-true (field ks 1) j.size.columns (and_right a b ab) in
    let hc : field ks 2 ≡ j.size.count = eqb-true (field ks 2) j.size.count (and_right (a && b) c abc) in
    let numbers : ks ≡ sheet_numbers j = sym (three_fields_lem ks r.size) ∙ rw (ha, hb, hc) in
    spells_same r.spells u.same (ap (line_text layout_word three_fields) numbers)

-- the line of a piece that is given is written with its number and its placement
pub placement_line_spelled : (j : Job) (text : List ℕ) (i p line : ℕ) (h : PlacementLine) → placement_line j text i p line ≡ given h
    → Spells text p h.next (placement_text i h.place)
unfolding placement_line
placement_line_spelled j text i p line h e =
    let f = given_formed line (line_at at_word four_fields text p) _ h e in
    let ks : List ℕ = f.value in
    let here : PlacementLine = as_placement_line ks f.next in
    let causes = placement_causes line j i ks here.place in
    let u : Unless causes here h = given_unless causes here h f.goes in
    let r : SpelledLine at_word four_fields text p f.next ks = line_spelled at_word four_fields text p ks f.next f.reads in
    let a : Bool = eqb (field ks 0) i in
    let t : Bool = is_turn (field ks 1) in
    let at : (a && t) ≡ true = not-false (a && t) u.none.0 in
    let ha : field ks 0 ≡ i = eqb-true (field ks 0) i (and_left a t at) in
    let entry : entry_of here.place ≡ field ks 1 ∷ field ks 2 ∷ field ks 3 ∷ [] =
    entry_written_back (field ks 1) (field ks 2) (field ks 3) (and_right a t at) in
    let numbers : ks ≡ i ∷ entry_of here.place =
    sym (four_fields_lem ks r.size) ∙ ap₂ (λ (n : ℕ) (l : List ℕ). n ∷ l) ha (sym entry) in
    let spelled : Spells text p here.next (placement_text i here.place) =
    spells_same r.spells refl (ap (line_text at_word four_fields) numbers) in
    rw (← u.same) spelled

-- the lines of pieces that are given reach to the end of the text and are those of the layout
placements_spelled : (j : Job) (text : List ℕ) (left i p line : ℕ) (v : Layout) → placements_at j text left i p line ≡ given v
    → Spells text p (length text) (placements_text i v)
unfolding placements_at placements_text
placements_spelled j text zero i p line v e =
    let u : Unless _ [] v = given_unless _ [] v e in
    let end : p ≡ length text = eqb-true p (length text) (not-false (eqb p (length text)) u.none.0) in
    spells_same (spells_none text p) end (ap (placements_text i) u.same)
placements_spelled j text (suc left) i p line v e =
    let b = given_before (placement_line j text i p line) _ v e in
    let b' = given_before (placements_at j text left (suc i) b.value.next (suc line)) _ v b.goes in
    let g : ◌≡◌ {A = Outcome Layout} (given (b.value.place ∷ b'.value)) (given v) = b'.goes in
    let z : b.value.place ∷ b'.value ≡ v = cc in
    spells_same
    (spells_then (placement_line_spelled j text i p line b.value b.gives)
    (placements_spelled j text left (suc i) b.value.next (suc line) b'.value b'.gives))
    refl (ap (placements_text i) z)

-- a text that is read as a layout is the text of that layout
pub layout_only_text : (j : Job) (text : List ℕ) (layout_length : ℕ) (v : Layout) → read_layout j text layout_length ≡ given v
    → text ≡ layout_text j v
unfolding read_layout layout_text
layout_only_text j text layout_length v e =
    let b = given_before (layout_line j text) _ v e in
    let b' = given_before (placements_at j text j.size.count 0 b.value 2) _ v b.goes in
    let u : Unless _ b'.value v = given_unless _ b'.value v b'.goes in
    spells_whole
    (spells_same
    (spells_then (layout_line_spelled j text b.value b.gives)
    (placements_spelled j text j.size.count 0 b.value 2 b'.value b'.gives))
    refl (ap (layout_text j) u.same))

-- reading gives a layout exactly where the text is its text, it is placed whole and the buffer has its length
pub layout_read_exactly : (j : Job) → j.size.rows ≤ row_bound → j.size.columns ≤ column_bound → j.size.count ≤ piece_bound
    → (text : List ℕ) (layout_length : ℕ) (v : Layout) → (read_layout j text layout_length ≡ given v) ↔ LayoutWritten j text layout_length v
layout_read_exactly j hr hc hn text layout_length v = (
  (λ e.
      let r = layout_read_placed j text layout_length v e in
      let all : AllPlaced j 0 j.size.count v = r.1 in
      let placed : (i : ℕ) → i < j.size.count → Placed j i (place_of v i) = λ i l. rw zero-add at (all.placed i l) in
      record {
        written = layout_only_text j text layout_length v e;
        size = all.size;
        turns = λ i l. (placed i l).turn;
        within = λ i l. (placed i l).within;
        room = r.0;
      }),
  (λ w.
      rw (w.written, w.room)
      (layout_read_back j v hr hc hn w.size (λ i l. record { turn = w.turns i l; within = w.within i l }))),
)
