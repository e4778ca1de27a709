-- Document 01, 'When a call says no', reading a job: each refusal has its cause, and the line that it names begins where the count of
-- line ends says. The reader goes from line to line; at each the lines before it are read. Assumes nothing.
use Rattle.list_laws.proofs.Kit.{◌≡◌, ap₂, refl, subst, sym, Bool, ◌||◌, false, not, true, inl, inr, ⊎_elim, List, [], ◌++◌, ◌*◌, ◌+◌, ◌<◌, suc, zero, ℕ}
use Rattle.list_laws.proofs.Kit.{add-zero, zero-add, arith, eqb, ltb, length, eqb-false, le-ltb, ltb-false, ltb-true, not-false, not-true}
use Rattle.model.specs.Piece.{tight}
use Rattle.model.specs.Refusal.{Outcome, refused, given, Cause, cause, refusal_of, wrong_form, out_of_range, sheet_too_large, boxes_too_large, loose_box, box_too_large}
use Rattle.model.specs.Refusal.{wrong_length}
use Rattle.model.specs.Lent.{Lent, area_bound, up_to, numbers_in_range}
use Rattle.model.specs.Text.{line_at, fields_text, got, cause_in, and_then}
use Rattle.model.specs.JobText.{job_word, gap_word, lock_word, job_versions, piece_word, piece_ends, JobLine, job_line_causes, job_line, PieceLine, as_piece_line}
use Rattle.model.specs.JobText.{piece_in_range, piece_line_causes}
use Rattle.model.specs.JobText.{piece_line, row_at, Rows, rows_at, box_shape, PieceText, rows_causes, as_piece_text, piece_at, no_pieces, pieces_at, as_lent, buffer_causes}
use Rattle.model.specs.JobText.{read_job}
use Rattle.model.specs.declared.JobSize.{JobSize}
use Rattle.model.specs.declared.Refusal.{Refusal}
use Rattle.list_laws.proofs.Tests.{or_cases, or_neither}
use Rattle.text_laws.specs.LinePlaces.{LineBegins, LineThere}
use Rattle.text_laws.specs.JobRefusals.{RowsBefore, no_row, row_then, PiecesBefore, no_piece, piece_then, PiecePlace, RowPlace, EndPlace, SheetNumbers}
use Rattle.text_laws.specs.JobRefusals.{PieceNumbers, JobFormWrong, wrong_job_line, wrong_piece_line, wrong_row_line, line_too_many, JobOutOfRange}
use Rattle.text_laws.specs.JobRefusals.{sheet_out_of_range, piece_out_of_range, SheetTooLarge, BoxTooLarge, BoxesTooLarge, LooseBox, BufferShort}
use Rattle.text_laws.specs.JobRefusals.{JobRefusalClaims}
use Rattle.text_laws.proofs.Outcomes.{refused_given, unless_given, given_before, given_formed, given_unless}
use Rattle.text_laws.specs.Outcomes.{Unless}
use Rattle.text_laws.proofs.Refused.{refused_unless, refused_before, refused_formed, chosen, choose}
use Rattle.text_laws.proofs.LineCounts.{first_line, line_then, row_one, three_line, four_line, five_line}
use Rattle.text_laws.proofs.JobRead.{LineWell, sides_some, piece_line_read}
use Rattle.text_laws.proofs.JobExact.{row_spelled, numbers_text, piece_line_spelled, JobLineSpelled, job_line_spelled}
use Rattle.text_laws.specs.JobWriting.{SaysSize}
use Rattle.text_laws.proofs.Spelling.{Spells, spells_same}

-- ── where the next line begins ──

-- behind the line of a piece, with a lock or without
numbers_then : {text : List ℕ} {line p : ℕ} (locks : Bool) (i : ℕ) (h : PieceLine) → LineBegins text line p
    → Spells text p h.next (numbers_text locks i h) → LineBegins text (suc line) h.next
unfolding fields_text
numbers_then true i h b s = five_line piece_word i h.columns h.rows h.turns h.lock refl b s
numbers_then false i h b s = four_line piece_word i h.columns h.rows h.turns refl b s

-- behind a piece line
piece_line_then : {text : List ℕ} {line p : ℕ} (j : JobLine) (i area : ℕ) (h : PieceLine) → LineBegins text line p
    → piece_line text j i area p line ≡ given h → LineBegins text (suc line) h.next
piece_line_then {text} {line} {p} j i area h b e =
    numbers_then j.locks i h b (piece_line_spelled text j i area p line h e).spells

-- behind a row line
row_line_then : {text : List ℕ} {line p : ℕ} (l : ℕ) (ms : List ℕ) (q : ℕ) → LineBegins text line p → row_at text l p ≡ got ms q
    → LineBegins text (suc line) q
row_line_then {text} {line} {p} l ms q b e = line_then b (row_spelled text l p ms q e).spells (row_one ms)

-- behind row lines
rows_then : {text : List ℕ} (l left p line : ℕ) (r : Rows) → LineBegins text line p → rows_at text l left p line ≡ given r
    → LineBegins text (line + left) r.next
unfolding rows_at
rows_then {text} l zero p line r b e =
    let z : ◌≡◌ {A = Rows} (record { pixels = []; next = p }) r = cc in
    rw (← z, add-zero) b
rows_then {text} l (suc left) p line r b e =
    let f = given_formed line (row_at text l p) _ r e in
    let g = given_before (rows_at text l left f.next (suc line)) _ r f.goes in
    let later : LineBegins text (suc line + left) g.value.next =
    rows_then l left f.next (suc line) g.value (row_line_then l f.value f.next b f.reads) g.gives in
    let whole : Rows = record { pixels = f.value ++ g.value.pixels; next = g.value.next } in
    let z : whole ≡ r = let same : ◌≡◌ {A = Outcome Rows} (given whole) (given r) = g.goes in cc in
    let n : line + suc left ≡ suc line + left = omega arith in
    subst (λ (x : Rows). LineBegins text (line + suc left) x.next) z (rw n later)

-- behind a piece
piece_then_line : {text : List ℕ} (j : JobLine) (i area p line : ℕ) (h : PieceText) → LineBegins text line p
    → piece_at text j i area p line ≡ given h → LineBegins text (suc (line + h.rows)) h.next
unfolding piece_at
piece_then_line {text} j i area p line h b e =
    let f = given_before (piece_line text j i area p line) _ h e in
    let k : PieceLine = f.value in
    let g = given_before (rows_at text k.columns k.rows k.next (suc line)) _ h f.goes in
    let r : Rows = g.value in
    let u : Unless (rows_causes line k r) (as_piece_text k r) h = given_unless (rows_causes line k r) (as_piece_text k r) h g.goes in
    let behind : LineBegins text (suc line + k.rows) r.next =
    rows_then k.columns k.rows k.next (suc line) r (piece_line_then j i area k b f.gives) g.gives in
    let n : suc (line + k.rows) ≡ suc line + k.rows = omega arith in
    subst (λ (x : PieceText). LineBegins text (suc (line + x.rows)) x.next) u.same (rw n behind)

-- the last of some row lines that are read
record LastRow (text : List ℕ) (l start top w : ℕ) : Type 0 where
  row : ℕ
  final : suc row ≡ w
  at : ℕ
  before : RowsBefore text l start row at
  begins : LineBegins text (suc (top + row)) at

-- there is one
last_row : {text : List ℕ} (l start top w : ℕ) (left y p line : ℕ) (r : Rows) → y + suc left ≡ w → RowsBefore text l start y p
    → line ≡ suc (top + y)
    → LineBegins text line p → rows_at text l (suc left) p line ≡ given r → LastRow text l start top w
unfolding rows_at
last_row {text} l start top w zero y p line r all before n b e =
    record { row = y; final = omega arith; at = p; before = before; begins = rw (← n) b }
last_row {text} l start top w (suc left) y p line r all before n b e =
    let f = given_formed line (row_at text l p) _ r e in
    let g = given_before (rows_at text l (suc left) f.next (suc line)) _ r f.goes in
    last_row l start top w left (suc y) f.next (suc line) g.value (omega arith) (row_then before f.reads) (omega arith)
    (row_line_then l f.value f.next b f.reads) g.gives

-- ── causes ──

-- the cause of each number on the line; no other number has one
abbrev CauseOf : List ℕ → ℕ → ℕ → ℕ → ℕ → Type 0
CauseOf text tl pl line n =
    chosen (eqb n wrong_form) (JobFormWrong text line)
    (chosen (eqb n out_of_range) (JobOutOfRange text line)
    (chosen (eqb n sheet_too_large) (SheetTooLarge text line)
    (chosen (eqb n boxes_too_large) (BoxesTooLarge text line)
    (chosen (eqb n loose_box) (LooseBox text line)
    (chosen (eqb n box_too_large) (BoxTooLarge text line) (chosen (eqb n wrong_length) (BufferShort text tl pl line) ⊥))))))

-- a refusal with its cause
record Caused (text : List ℕ) (tl pl : ℕ) (r : Refusal) : Type 0 where
  why : CauseOf text tl pl r.first r.number
  second : r.second ≡ 0

module _ (text : List ℕ) (tl pl : ℕ) where
  -- the refusal of a cause that is there
  caused : {r : Refusal} (c : Cause) → refusal_of c ≡ r → c.second ≡ 0 → CauseOf text tl pl c.first c.number → Caused text tl pl r
  caused {r} c e z why = subst (Caused text tl pl) e (record { why = why; second = z })

  -- a job line that refuses
  job_line_refused : (r : Refusal) → job_line text ≡ refused r → Caused text tl pl r
  unfolding job_line
  job_line_refused r e =
      ⊎_elim
      (λ w. caused (cause_in 1 wrong_form true) w.1 refl (wrong_job_line refl w.0))
      (λ f.
      let j : JobLine = f.value in
      let numbers : SheetNumbers text 1 = record { first = refl; said = j; next = f.next; reads = f.reads } in
      let ranges : Bool = numbers_in_range j.size in
      let large : Bool = ltb area_bound (j.size.rows * j.size.columns) in
      ⊎_elim
      (λ w. caused (cause_in 1 out_of_range (not ranges)) w.1 refl (sheet_out_of_range numbers (not-true ranges w.0)))
      (λ n.
      ⊎_elim
      (λ w.
      caused (cause_in 1 sheet_too_large large) w.1 refl
      (record { sheet = numbers; ranges = not-false ranges n.0; above = ltb-true area_bound (j.size.rows * j.size.columns) w.0 }))
      (λ n'. absurd n'.1)
      n.1)
      (refused_unless (job_line_causes j) j r f.goes))
      (refused_formed 1 (job_versions text) _ r e)

  -- a piece line that refuses
  piece_line_refused : (line : ℕ) (a : PiecePlace text line) (r : Refusal)
      → piece_line text a.job a.number a.area a.at line ≡ refused r → Caused text tl pl r
  unfolding piece_line
  piece_line_refused line a r e =
      let j : JobLine = a.job in
      let i : ℕ = a.number in
      ⊎_elim
      (λ w. caused (cause_in line wrong_form true) w.1 refl (wrong_piece_line a w.0))
      (λ f.
      let h : PieceLine = as_piece_line f.value f.next in
      let numbers : PieceNumbers text line =
      record { place = a; said = h; numbers = f.value; next = f.next; reads = f.reads; says = refl } in
      let ranges : Bool = piece_in_range i h in
      let long : Bool = ltb j.size.columns h.columns in
      let high : Bool = ltb j.size.rows h.rows in
      let large : Bool = ltb area_bound (a.area + h.columns * h.rows) in
      ⊎_elim
      (λ w. caused (cause_in line out_of_range (not ranges)) w.1 refl (piece_out_of_range numbers (not-true ranges w.0)))
      (λ n.
      ⊎_elim
      (λ w.
      caused (cause_in line box_too_large (long || high)) w.1 refl
      (record {
        piece = numbers;
        ranges = not-false ranges n.0;
        above =
            ⊎_elim (λ c. inl (ltb-true j.size.columns h.columns c)) (λ c. inr (ltb-true j.size.rows h.rows c))
            (or_cases long high w.0);
      }))
      (λ n'.
      let fits = or_neither long high n'.0 in
      ⊎_elim
      (λ w.
      caused (cause_in line boxes_too_large large) w.1 refl
      (record {
        piece = numbers;
        ranges = not-false ranges n.0;
        long = ltb-false j.size.columns h.columns fits.0;
        high = ltb-false j.size.rows h.rows fits.1;
        above = ltb-true area_bound (a.area + h.columns * h.rows) w.0;
      }))
      (λ n''. absurd n''.1)
      n'.1)
      n.1)
      (refused_unless (piece_line_causes line j i a.area h) h r f.goes))
      (refused_formed line (line_at piece_word (piece_ends j.locks) text a.at) _ r e)

  module _ (top : ℕ) (a : PiecePlace text top) (h : PieceLine)
      (heads : piece_line text a.job a.number a.area a.at top ≡ given h) where
    -- row lines that refuse
    rows_refused : (left y p line : ℕ) → y + left ≡ h.rows → RowsBefore text h.columns h.next y p → line ≡ suc (top + y)
        → LineBegins text line p → (r : Refusal) → rows_at text h.columns left p line ≡ refused r → Caused text tl pl r
    unfolding rows_at
    rows_refused zero y p line all before n begins r e = absurd (refused_given (sym e))
    rows_refused (suc left) y p line all before n begins r e =
        let place : RowPlace text line =
        record {
          top = top;
          piece = a;
          head = h;
          heads = heads;
          row = y;
          below = omega arith;
          at = p;
          before = before;
          numbered = n;
          begins = begins;
        } in
        ⊎_elim
        (λ w. caused (cause_in line wrong_form true) w.1 refl (wrong_row_line place w.0))
        (λ f.
        ⊎_elim
        (λ w.
        rows_refused left (suc y) f.next (suc line) (omega arith) (row_then before f.reads) (omega arith)
        (row_line_then h.columns f.value f.next begins f.reads) r w)
        (λ g. absurd (refused_given (sym g.goes)))
        (refused_before (rows_at text h.columns left f.next (suc line)) _ r f.goes))
        (refused_formed line (row_at text h.columns p) _ r e)

    -- a loose box
    loose_refused : (rows : Rows) → rows_at text h.columns h.rows h.next (suc top) ≡ given rows
        → tight (box_shape h.columns h.rows rows.pixels) ≡ false → LooseBox text (top + h.rows)
    loose_refused rows reads loose = from h.rows refl reads
      where
        from : (w : ℕ) → h.rows ≡ w → rows_at text h.columns w h.next (suc top) ≡ given rows → LooseBox text (top + h.rows)
        from zero e reads' =
            let line : LineWell a.job a.area h.columns h.rows h.turns h.lock =
            piece_line_read text a.job a.number a.area a.at top h heads in
            let some : 0 < h.rows = (sides_some h.columns h.rows h.turns line.ranges).1 in
            absurd (omega arith)
        from (suc w) e reads' =
            let l : LastRow text h.columns h.next top h.rows =
            last_row h.columns h.next top h.rows w 0 h.next (suc top) rows (omega arith) no_row (omega arith)
            (piece_line_then a.job a.number a.area h a.begins heads) reads' in
            let line : suc (top + l.row) ≡ top + h.rows = let f = l.final in omega arith in
            record {
              last =
                  record {
                    top = top;
                    piece = a;
                    head = h;
                    heads = heads;
                    row = l.row;
                    below = let f = l.final in omega arith;
                    at = l.at;
                    before = l.before;
                    numbered = sym line;
                    begins = rw (← line) l.begins;
                  };
              final = l.final;
              rows = rows;
              reads = reads;
              loose = loose;
            }

  -- a piece that refuses
  piece_refused : (line : ℕ) (a : PiecePlace text line) (r : Refusal) → piece_at text a.job a.number a.area a.at line ≡ refused r
      → Caused text tl pl r
  unfolding piece_at
  piece_refused line a r e =
      ⊎_elim
      (λ w. piece_line_refused line a r w)
      (λ f.
      let h : PieceLine = f.value in
      ⊎_elim
      (λ w.
      rows_refused line a h f.gives h.rows 0 h.next (suc line) (zero-add h.rows) no_row (omega arith)
      (piece_line_then a.job a.number a.area h a.begins f.gives) r w)
      (λ g.
      let rows : Rows = g.value in
      let whole : Bool = tight (box_shape h.columns h.rows rows.pixels) in
      ⊎_elim
      (λ w.
      caused (cause_in (line + h.rows) loose_box (not whole)) w.1 refl
      (loose_refused line a h f.gives rows g.gives (not-true whole w.0)))
      (λ n. absurd n.1)
      (refused_unless (rows_causes line h rows) (as_piece_text h rows) r g.goes))
      (refused_before (rows_at text h.columns h.rows h.next (suc line)) _ r f.goes))
      (refused_before (piece_line text a.job a.number a.area a.at line) _ r e)

  -- pieces that refuse
  pieces_refused : (j : JobLine) → job_line text ≡ given j → (left i area p line : ℕ) → i + left ≡ j.size.count
      → PiecesBefore text j i area p line
      → LineBegins text line p → (r : Refusal) → pieces_at text j left i area p line ≡ refused r → Caused text tl pl r
  unfolding pieces_at
  pieces_refused j sheet zero i area p line all before begins r e =
      let all' : i ≡ j.size.count = omega arith in
      let place : EndPlace text line =
      record {
        job = j;
        area = area;
        at = p;
        sheet = sheet;
        before = subst (λ (n : ℕ). PiecesBefore text j n area p line) all' before;
        begins = begins;
      } in
      ⊎_elim
      (λ w.
      let ne : p ≡ length text → ⊥ = eqb-false p (length text) (not-true (eqb p (length text)) w.0) in
      caused (cause_in line wrong_form (not (eqb p (length text)))) w.1 refl
      (line_too_many place (let within = begins.within in omega arith)))
      (λ n. absurd n.1)
      (refused_unless _ no_pieces r e)
  pieces_refused j sheet (suc left) i area p line all before begins r e =
      let place : PiecePlace text line =
      record { job = j; number = i; area = area; at = p; sheet = sheet; below = omega arith; before = before; begins = begins } in
      ⊎_elim
      (λ w. piece_refused line place r w)
      (λ f.
      let h : PieceText = f.value in
      ⊎_elim
      (λ w.
      pieces_refused j sheet left (suc i) (area + h.columns * h.rows) h.next (suc (line + h.rows)) (omega arith)
      (piece_then before f.gives) (piece_then_line j i area p line h begins f.gives) r w)
      (λ g. absurd (refused_given (sym g.goes)))
      (refused_before (pieces_at text j left (suc i) (area + h.columns * h.rows) h.next (suc (line + h.rows))) _ r f.goes))
      (refused_before (piece_at text j i area p line) _ r e)

  -- behind a job line, of whichever version, the second line begins
  version_then : (n : JobSize) (locks : Bool) (line : List ℕ) (next : ℕ) → SaysSize n locks line → Spells text 0 next line → LineBegins text 2 next
  version_then n true line next says s =
      four_line lock_word n.rows n.columns n.count n.gap refl (first_line text) (spells_same s refl says)
  version_then n false line next says s =
      ⊎_elim
      (λ g. four_line gap_word n.rows n.columns n.count n.gap refl (first_line text) (spells_same s refl g))
      (λ g. three_line job_word n.rows n.columns n.count refl (first_line text) (spells_same s refl g.0))
      says

  -- so it does behind the job line that is given
  job_line_then : (j : JobLine) → job_line text ≡ given j → LineBegins text 2 j.next
  job_line_then j e =
      let s : JobLineSpelled text j = job_line_spelled text j e in
      version_then j.size j.locks s.line j.next s.says s.spells

  -- every refusal has its cause
  all_caused : (r : Refusal) → read_job text tl pl ≡ refused r → Caused text tl pl r
  unfolding read_job
  all_caused r e =
      ⊎_elim
      (λ w. job_line_refused r w)
      (λ f.
      let j : JobLine = f.value in
      ⊎_elim
      (λ w.
      pieces_refused j f.gives j.size.count 0 0 j.next 2 (zero-add j.size.count) no_piece
      (job_line_then j f.gives)
      r w)
      (λ g.
      let k : Lent = as_lent j g.value in
      let few : Bool = ltb tl k.size.count in
      let small : Bool = ltb pl (length k.pixels) in
      ⊎_elim
      (λ w.
      caused (cause wrong_length (few || small)) w.1 refl
      (record {
        unplaced = refl;
        job = k;
        readable =
            rw (f.gives, g.gives, and_then, read_job)
            (unless_given _ k (
              ap₂ (λ (x y : Bool). x || y) (le-ltb k.size.count k.size.count (omega arith))
                  (le-ltb (length k.pixels) (length k.pixels) (omega arith)),
              tt,
            ));
        short =
            ⊎_elim (λ c. inl (ltb-true tl k.size.count c)) (λ c. inr (ltb-true pl (length k.pixels) c)) (or_cases few small w.0);
      }))
      (λ n. absurd n.1)
      (refused_unless (buffer_causes tl pl k) k r g.goes))
      (refused_before (pieces_at text j j.size.count 0 0 j.next 2) _ r f.goes))
      (refused_before (job_line text) _ r e)

-- ── a refusal ──

-- the line of a cause but 7
cause_line : (text : List ℕ) (tl pl line n : ℕ) → CauseOf text tl pl line n → (n ≡ wrong_length → ⊥) → LineThere text line
cause_line text tl pl line n why not-length =
    choose n wrong_form (λ e w. form_line w)
    (choose n out_of_range (λ e w. range_line w)
    (choose n sheet_too_large (λ e w. first_there w.sheet.first)
    (choose n boxes_too_large (λ e w. numbers_line w.piece)
    (choose n loose_box (λ e w. record { at = w.last.at; begins = w.last.begins })
    (choose n box_too_large (λ e w. numbers_line w.piece) (choose n wrong_length (λ e w. absurd (not-length e)) (λ w. absurd w)))))))
    why
  where
    -- the first line
    first_there : line ≡ 1 → LineThere text line
    first_there e = record { at = 0; begins = rw e (first_line text) }

    -- a piece line whose numbers are read
    numbers_line : PieceNumbers text line → LineThere text line
    numbers_line a = record { at = a.place.at; begins = a.place.begins }

    -- a line of wrong form
    form_line : JobFormWrong text line → LineThere text line
    form_line (wrong_job_line e w) = first_there e
    form_line (wrong_piece_line a w) = record { at = a.at; begins = a.begins }
    form_line (wrong_row_line a w) = record { at = a.at; begins = a.begins }
    form_line (line_too_many a w) = record { at = a.at; begins = a.begins }

    -- a line with a number out of range
    range_line : JobOutOfRange text line → LineThere text line
    range_line (sheet_out_of_range a w) = first_there a.first
    range_line (piece_out_of_range a w) = numbers_line a

-- every refusal of reading a job has its cause, and its line begins where it says
pub job_refusals : (text : List ℕ) (tableLength pixelsLength : ℕ) (r : Refusal) → read_job text tableLength pixelsLength ≡ refused r
    → JobRefusalClaims text tableLength pixelsLength r
job_refusals text tableLength pixelsLength r e =
    let c : Caused text tableLength pixelsLength r = all_caused text tableLength pixelsLength r e in
    let n : ℕ = r.number in
    let is : (k : ℕ) → up_to wrong_length k ≡ true → n ≡ k → up_to wrong_length n ≡ true = λ k h same. rw same h in
    let at : (k : ℕ) → n ≡ k → CauseOf text tableLength pixelsLength r.first k =
    λ k same. subst (CauseOf text tableLength pixelsLength r.first) same c.why in
    record {
      numbers =
          choose n wrong_form (λ same w. is wrong_form refl same)
          (choose n out_of_range (λ same w. is out_of_range refl same)
          (choose n sheet_too_large (λ same w. is sheet_too_large refl same)
          (choose n boxes_too_large (λ same w. is boxes_too_large refl same)
          (choose n loose_box (λ same w. is loose_box refl same)
          (choose n box_too_large (λ same w. is box_too_large refl same)
          (choose n wrong_length (λ same w. is wrong_length refl same) (λ w. absurd w)))))))
          c.why;
      form = at wrong_form;
      range = at out_of_range;
      sheet = at sheet_too_large;
      boxes = at boxes_too_large;
      loose = at loose_box;
      box = at box_too_large;
      buffers = at wrong_length;
      line = cause_line text tableLength pixelsLength r.first n c.why;
      second = c.second;
    }
