-- Document 01, 'Start, layout text, sheet' and 'When a call says no': what the writer writes of a layout whose placements are inside
-- in allowed turns is read back as that layout. Line by line: each written line lies ahead of the reader, is of the right form,
-- and none of its causes is there; after the last line the text ends. Assumes nothing.
use Rattle.list_laws.proofs.Kit.{◌∙◌, ◌≡◌, ap, refl, not, true, List, [], ◌++◌, ◌∷◌, ◌+◌, ◌<◌, ◌≤◌, suc, ℕ, add-zero, zero-add, arith, leb, length, eq-eqb}
use Rattle.list_laws.proofs.Kit.{leb-true}
use Rattle.model.specs.Piece.{degrees}
use Rattle.model.specs.Layout.{Job, Layout, inside, place_of, turned_piece}
use Rattle.model.specs.Refusal.{given, unless}
use Rattle.model.specs.Lent.{row_bound, column_bound, piece_bound}
use Rattle.model.specs.Text.{three_fields, four_fields, line_at, line_text, formed, and_then}
use Rattle.model.specs.Buffer.{entry_of}
use Rattle.model.specs.LayoutText.{layout_word, at_word, placement_text, placements_text, sheet_numbers, layout_text, layout_line_causes, layout_line, PlacementLine}
use Rattle.model.specs.LayoutText.{placement_causes, placement_line, placements_at, read_layout}
use Rattle.model.specs.declared.Turn.{Turn}
use Rattle.model.specs.declared.Turn.TheVariants.{Zero, Quarter, Half, ThreeQuarters}
use Rattle.model.specs.declared.Placement.{Placement}
use Rattle.list_laws.proofs.Tests.{and_left, and_right, and_both}
use Rattle.text_laws.proofs.Ahead.{Ahead, ahead_start, ahead_end}
use Rattle.text_laws.proofs.Fields.{FieldReads, FieldGives, Writable, line_ahead}
use Rattle.text_laws.proofs.Outcomes.{unless_given}
use Rattle.text_laws.specs.Texts.{Placed}
use Rattle.text_laws.proofs.Entries.{degrees_turn, entry_read_back}

-- degrees have at most 5 digits
degrees_short : (t : Turn) → degrees t ≤ 99999
degrees_short Zero = omega arith
degrees_short Quarter = omega arith
degrees_short Half = omega arith
degrees_short ThreeQuarters = omega arith

-- the corner of a placement inside lies in the sheet
corner_short : (j : Job) (i : ℕ) (p : Placement) → inside j i p ≡ true → (p.x.0 ≤ j.size.columns) × (p.y.0 ≤ j.size.rows)
unfolding inside
corner_short j i p e =
    let s = turned_piece j i p.turn in
    let h : leb (p.x.0 + s.columns) j.size.columns ≡ true =
    and_left (leb (p.x.0 + s.columns) j.size.columns) (leb (p.y.0 + s.rows) j.size.rows) e in
    let v : leb (p.y.0 + s.rows) j.size.rows ≡ true =
    and_right (leb (p.x.0 + s.columns) j.size.columns) (leb (p.y.0 + s.rows) j.size.rows) e in
    (let a = leb-true (p.x.0 + s.columns) j.size.columns h in omega arith, let a = leb-true (p.y.0 + s.rows) j.size.rows v in omega arith)

-- the line of a placement that lies ahead gives the placement
placement_ahead : {text : List ℕ} {p : ℕ} (j : Job) (i line : ℕ) (q : Placement) (rest : List ℕ) → j.size.rows ≤ row_bound → j.size.columns ≤ column_bound
    → i < piece_bound → Placed j i q → Ahead text p (placement_text i q ++ rest)
    → FieldGives (placement_line j text i p line) (λ n. record { place = q; next = n }) text rest
unfolding placement_line
placement_ahead {text} {p} j i line q rest hr hc hi h a =
    let ks : List ℕ = i ∷ entry_of q in
    let short = corner_short j i q h.within in
    let w : Writable four_fields ks =
    (refl, omega arith, (refl, degrees_short q.turn, (refl, omega arith, (refl, omega arith, tt)))) in
    let r : FieldReads (line_at at_word four_fields text p) ks text rest = line_ahead at_word four_fields ks rest w a in
    let here : Placement → PlacementLine = λ (q' : Placement). record { place = q'; next = r.next } in
    let none : unless (placement_causes line j i ks q) (here q) ≡ given (here q) =
    unless_given (placement_causes line j i ks q) (here q)
    (ap not (and_both (eq-eqb i i refl) (degrees_turn q.turn)), (ap not h.turn, (ap not h.within, tt))) in
    record {
      next = r.next;
      gives = rw (r.reads, formed) (ap (λ (q' : Placement). unless (placement_causes line j i ks q') (here q')) (entry_read_back q) ∙ none);
      ahead = r.ahead;
    }

-- the lines of a layout that lie ahead, with nothing after them, give the layout
placements_ahead : {text : List ℕ} {p : ℕ} (j : Job) (i line : ℕ) (v : Layout) → j.size.rows ≤ row_bound → j.size.columns ≤ column_bound
    → i + length v ≤ piece_bound → ((k : ℕ) → k < length v → Placed j (i + k) (place_of v k)) → Ahead text p (placements_text i v)
    → placements_at j text (length v) i p line ≡ given v
unfolding placements_at placements_text
placements_ahead {text = text} {p = p} j i line [] hr hc hn h a =
    unless_given _ [] (ap not (eq-eqb p (length text) (ahead_end a)), tt)
placements_ahead {text = text} {p = p} j i line (q ∷ v) hr hc hn h a =
    let first : Placed j i q = rw add-zero at (h 0 (omega arith)) in
    let g : FieldGives (placement_line j text i p line) (λ n. record { place = q; next = n }) text (placements_text (suc i) v) =
    placement_ahead j i line q (placements_text (suc i) v) hr hc (omega arith) first a in
    let later : placements_at j text (length v) (suc i) g.next (suc line) ≡ given v =
    placements_ahead {p = g.next} j (suc i) (suc line) v hr hc (omega arith)
    (λ k l. let s : suc i + k ≡ i + suc k = omega arith in rw s (h (suc k) (omega arith)))
    g.ahead in
    rw (g.gives, later, and_then)

-- the layout line that lies ahead is passed
layout_line_ahead : {text : List ℕ} (j : Job) (rest : List ℕ) → j.size.rows ≤ row_bound → j.size.columns ≤ column_bound → j.size.count ≤ piece_bound
    → Ahead text 0 (line_text layout_word three_fields (sheet_numbers j) ++ rest) → FieldGives (layout_line j text) (λ n. n) text rest
unfolding layout_line
layout_line_ahead {text} j rest hr hc hn a =
    let ks : List ℕ = sheet_numbers j in
    let w : Writable three_fields ks = (refl, omega arith, (refl, omega arith, (refl, omega arith, tt))) in
    let r : FieldReads (line_at layout_word three_fields text 0) ks text rest = line_ahead layout_word three_fields ks rest w a in
    record {
      next = r.next;
      gives =
          rw (r.reads, formed)
          (unless_given (layout_line_causes j ks) r.next (
            ap not
                (and_both (and_both (eq-eqb j.size.rows j.size.rows refl) (eq-eqb j.size.columns j.size.columns refl))
                (eq-eqb j.size.count j.size.count refl)),
            tt,
          ));
      ahead = r.ahead;
    }

-- what is written of a layout is read back as that layout
pub layout_read_back : (j : Job) (v : Layout) → j.size.rows ≤ row_bound → j.size.columns ≤ column_bound → j.size.count ≤ piece_bound
    → length v ≡ j.size.count → ((i : ℕ) → i < j.size.count → Placed j i (place_of v i))
    → read_layout j (layout_text j v) j.size.count ≡ given v
unfolding read_layout layout_text
layout_read_back j v hr hc hn e h =
    let text : List ℕ = layout_text j v in
    let g : FieldGives (layout_line j text) (λ n. n) text (placements_text 0 v) = layout_line_ahead j (placements_text 0 v) hr hc hn (ahead_start text) in
    let r : placements_at j text j.size.count 0 g.next 2 ≡ given v =
    rw e at (placements_ahead j 0 2 v hr hc (omega arith) (λ k l. rw zero-add (h k (omega arith))) g.ahead) in
    rw (g.gives, r, and_then, read_layout) (unless_given _ v (ap not (eq-eqb j.size.count j.size.count refl), tt))
