-- Document 01, 'When a call says no', reading a job: each cause leads to its refusal. The lines before the cause's line are read, so the
-- reader comes to that line and stops there. Assumes nothing.
use Rattle.list_laws.proofs.Kit.{◌≡◌, ap, ap₂, refl, subst, sym, Bool, ◌||◌, not, true, inl, inr, ⊎_elim, List, ◌*◌, ◌+◌, ◌-◌, suc, ℕ, add-zero, zero-add}
use Rattle.list_laws.proofs.Kit.{arith, eqb, ltb, length, le-ltb, lt-ltb, ne_eqb}
use Rattle.model.specs.Refusal.{refused, given, wrong_form, out_of_range, sheet_too_large, boxes_too_large, loose_box, box_too_large, wrong_length}
use Rattle.model.specs.Lent.{Lent, area_bound}
use Rattle.model.specs.Text.{formed, and_then}
use Rattle.model.specs.JobText.{JobLine, job_line_causes, job_line, PieceLine, as_piece_line, piece_line_causes, piece_line, rows_at, rows_causes, as_piece_text}
use Rattle.model.specs.JobText.{piece_at, no_pieces, pieces_at, as_lent, buffer_causes, read_job}
use Rattle.model.specs.declared.Refusal.{Refusal}
use Rattle.list_laws.proofs.Tests.{or_left, or_right}
use Rattle.text_laws.specs.LinePlaces.{refusal_on_line}
use Rattle.text_laws.specs.JobRefusals.{RowsBefore, no_row, row_then, PiecesBefore, no_piece, piece_then, PiecePlace, RowPlace, SheetNumbers}
use Rattle.text_laws.specs.JobRefusals.{PieceNumbers, JobFormWrong, wrong_job_line, wrong_piece_line, wrong_row_line, line_too_many, JobOutOfRange}
use Rattle.text_laws.specs.JobRefusals.{sheet_out_of_range, piece_out_of_range, SheetTooLarge, BoxTooLarge, BoxesTooLarge, LooseBox, BufferShort}
use Rattle.text_laws.specs.JobRefusals.{JobCausesRefuse}
use Rattle.text_laws.specs.Outcomes.{Unless}
use Rattle.text_laws.proofs.Outcomes.{given_unless, given_before}
use Rattle.text_laws.proofs.Refused.{Refuses, unless_refused}

-- ── the reader comes to the line ──

-- rows: where the reading of the later ones is refused, so is the whole
rows_resume : {text : List ℕ} {l p y q : ℕ} (r : Refusal) → RowsBefore text l p y q → (line left : ℕ)
    → rows_at text l left q (line + y) ≡ refused r → rows_at text l (y + left) p line ≡ refused r
unfolding rows_at
rows_resume {text} {l} {p} r no_row line left e = rw zero-add (rw add-zero at e)
rows_resume {text} {l} {p} r (row_then {y = y} {q = q} {r = n} {ms = ms} before reads) line left e =
    let next : line + suc y ≡ suc (line + y) = omega arith in
    let e' : rows_at text l left n (suc (line + y)) ≡ refused r = rw next at e in
    let here : rows_at text l (suc left) q (line + y) ≡ refused r = rw (reads, e', formed, and_then, rows_at) in
    let s : suc y + left ≡ y + suc left = omega arith in
    rw s (rows_resume r before line (suc left) here)

-- pieces likewise
pieces_resume : {text : List ℕ} {j : JobLine} {i area p line : ℕ} (r : Refusal) → PiecesBefore text j i area p line → (left : ℕ)
    → pieces_at text j left i area p line ≡ refused r → pieces_at text j (i + left) 0 0 j.next 2 ≡ refused r
unfolding pieces_at
pieces_resume {text} {j} r no_piece left e = rw zero-add e
pieces_resume {text} {j} r (piece_then {i} {area} {p} {line} {h} before gives) left e =
    let here : pieces_at text j (suc left) i area p line ≡ refused r = rw (gives, e, and_then, pieces_at) in
    let s : suc i + left ≡ i + suc left = omega arith in
    rw s (pieces_resume r before (suc left) here)

module _ (text : List ℕ) (tl pl : ℕ) (r : Refusal) where
  -- a job line that refuses
  job_line_stops : job_line text ≡ refused r → read_job text tl pl ≡ refused r
  unfolding read_job
  job_line_stops e = rw (e, and_then, read_job)

  -- pieces that refuse
  pieces_stop : (j : JobLine) → job_line text ≡ given j → pieces_at text j j.size.count 0 0 j.next 2 ≡ refused r
      → read_job text tl pl ≡ refused r
  unfolding read_job
  pieces_stop j e f = rw (e, f, and_then, read_job)

  -- a piece that refuses
  piece_stops : (line : ℕ) (a : PiecePlace text line) → piece_at text a.job a.number a.area a.at line ≡ refused r
      → read_job text tl pl ≡ refused r
  unfolding pieces_at
  piece_stops line a e =
      let j : JobLine = a.job in
      let left : ℕ = j.size.count - suc a.number in
      let all : a.number + suc left ≡ j.size.count = let b = a.below in omega arith in
      let here : pieces_at text j (suc left) a.number a.area a.at line ≡ refused r = rw (e, and_then, pieces_at) in
      pieces_stop j a.sheet (rw all at (pieces_resume r a.before (suc left) here))

  -- a piece line that refuses
  piece_line_stops : (line : ℕ) (a : PiecePlace text line) → piece_line text a.job a.number a.area a.at line ≡ refused r
      → read_job text tl pl ≡ refused r
  unfolding piece_at
  piece_line_stops line a e = piece_stops line a (rw (e, and_then, piece_at))

  -- row lines that refuse
  rows_stop : (line : ℕ) (a : RowPlace text line) (left : ℕ) → a.row + left ≡ a.head.rows
      → rows_at text a.head.columns left a.at line ≡ refused r → read_job text tl pl ≡ refused r
  unfolding piece_at
  rows_stop line a left all e =
      let n : line ≡ suc a.top + a.row = let m = a.numbered in omega arith in
      let rows : rows_at text a.head.columns a.head.rows a.head.next (suc a.top) ≡ refused r =
      rw all at (rows_resume r a.before (suc a.top) left (rw n at e)) in
      piece_stops a.top a.piece (rw (a.heads, rows, and_then, piece_at))

  -- numbers of the job line with a cause
  sheet_stops : (line : ℕ) (a : SheetNumbers text line) → Refuses (job_line_causes a.said) r → read_job text tl pl ≡ refused r
  unfolding job_line
  sheet_stops line a c = job_line_stops (rw (a.reads, formed) (unless_refused (job_line_causes a.said) a.said r c))

  -- numbers of a piece line with a cause
  numbers_stop : (line : ℕ) (a : PieceNumbers text line)
      → Refuses (piece_line_causes line a.place.job a.place.number a.place.area a.said) r → read_job text tl pl ≡ refused r
  unfolding piece_line
  numbers_stop line a c =
      let h : PieceLine = as_piece_line a.numbers a.next in
      let causes = piece_line_causes line a.place.job a.place.number a.place.area in
      piece_line_stops line a.place
      (rw (a.reads, formed) (unless_refused (causes h) h r (subst (λ (k : PieceLine). Refuses (causes k) r) a.says c)))

-- ── each cause ──

-- a line of wrong form
form_refuses : (text : List ℕ) (tl pl line : ℕ) → JobFormWrong text line → read_job text tl pl ≡ refused (refusal_on_line wrong_form line)
unfolding job_line piece_line rows_at pieces_at
form_refuses text tl pl line (wrong_job_line n e) =
    rw n (job_line_stops text tl pl (refusal_on_line wrong_form 1) (rw (e, formed)))
form_refuses text tl pl line (wrong_piece_line a e) = piece_line_stops text tl pl (refusal_on_line wrong_form line) line a (rw (e, formed))
form_refuses text tl pl line (wrong_row_line a e) =
    let left : ℕ = a.head.rows - suc a.row in
    rows_stop text tl pl (refusal_on_line wrong_form line) line a (suc left) (let b = a.below in omega arith) (rw (e, formed, rows_at))
form_refuses text tl pl line (line_too_many a b) =
    let j : JobLine = a.job in
    let r : Refusal = refusal_on_line wrong_form line in
    let more : not (eqb a.at (length text)) ≡ true = ap not (ne_eqb a.at (length text) (λ e. omega arith)) in
    let here : pieces_at text j 0 j.size.count a.area a.at line ≡ refused r = unless_refused _ no_pieces r (inl (more, refl)) in
    pieces_stop text tl pl r j a.sheet (rw add-zero at (pieces_resume r a.before 0 here))

-- a number out of range
range_refuses : (text : List ℕ) (tl pl line : ℕ) → JobOutOfRange text line → read_job text tl pl ≡ refused (refusal_on_line out_of_range line)
range_refuses text tl pl line (sheet_out_of_range a e) =
    rw a.first (sheet_stops text tl pl (refusal_on_line out_of_range 1) line a (inl (ap not e, refl)))
range_refuses text tl pl line (piece_out_of_range a e) = numbers_stop text tl pl (refusal_on_line out_of_range line) line a (inl (ap not e, refl))

-- a sheet too large
sheet_refuses : (text : List ℕ) (tl pl line : ℕ) → SheetTooLarge text line → read_job text tl pl ≡ refused (refusal_on_line sheet_too_large line)
sheet_refuses text tl pl line c =
    let a : SheetNumbers text line = c.sheet in
    rw a.first
    (sheet_stops text tl pl (refusal_on_line sheet_too_large 1) line a
    (inr (ap not c.ranges, inl (lt-ltb area_bound (a.said.size.rows * a.said.size.columns) c.above, refl))))

-- a box too large
box_refuses : (text : List ℕ) (tl pl line : ℕ) → BoxTooLarge text line → read_job text tl pl ≡ refused (refusal_on_line box_too_large line)
box_refuses text tl pl line c =
    let a : PieceNumbers text line = c.piece in
    let j : JobLine = a.place.job in
    let h : PieceLine = a.said in
    let long : Bool = ltb j.size.columns h.columns in
    let high : Bool = ltb j.size.rows h.rows in
    let above : (long || high) ≡ true =
    ⊎_elim (λ l. or_left long high (lt-ltb j.size.columns h.columns l))
    (λ l. or_right long high (lt-ltb j.size.rows h.rows l)) c.above in
    numbers_stop text tl pl (refusal_on_line box_too_large line) line a (inr (ap not c.ranges, inl (above, refl)))

-- boxes too large together
boxes_refuse : (text : List ℕ) (tl pl line : ℕ) → BoxesTooLarge text line → read_job text tl pl ≡ refused (refusal_on_line boxes_too_large line)
boxes_refuse text tl pl line c =
    let a : PieceNumbers text line = c.piece in
    let j : JobLine = a.place.job in
    let h : PieceLine = a.said in
    numbers_stop text tl pl (refusal_on_line boxes_too_large line) line a
    (inr (
      ap not c.ranges,
      inr (
        ap₂ (λ (x y : Bool). x || y) (le-ltb j.size.columns h.columns c.long) (le-ltb j.size.rows h.rows c.high),
        inl (lt-ltb area_bound (a.place.area + h.columns * h.rows) c.above, refl),
      ),
    ))

-- a loose box
loose_refuses : (text : List ℕ) (tl pl line : ℕ) → LooseBox text line → read_job text tl pl ≡ refused (refusal_on_line loose_box line)
unfolding piece_at
loose_refuses text tl pl line c =
    let a : RowPlace text line = c.last in
    let h : PieceLine = a.head in
    let r : Refusal = refusal_on_line loose_box line in
    let n : a.top + h.rows ≡ line = let m = a.numbered in let f = c.final in omega arith in
    piece_stops text tl pl r a.top a.piece
    (rw (a.heads, c.reads, and_then, piece_at)
    (unless_refused (rows_causes a.top h c.rows) (as_piece_text h c.rows) r (inl (ap not c.loose, ap (refusal_on_line loose_box) n))))

-- a buffer too short
buffers_refuse : (text : List ℕ) (tl pl line : ℕ) → BufferShort text tl pl line → read_job text tl pl ≡ refused (refusal_on_line wrong_length line)
unfolding read_job
buffers_refuse text tl pl line c =
    let k : Lent = c.job in
    let b = given_before (job_line text) _ k c.readable in
    let j : JobLine = b.value in
    let b' = given_before (pieces_at text j j.size.count 0 0 j.next 2) _ k b.goes in
    let l : Lent = as_lent j b'.value in
    let u : Unless (buffer_causes k.size.count (length k.pixels) l) l k =
    given_unless (buffer_causes k.size.count (length k.pixels) l) l k b'.goes in
    let few : Bool = ltb tl k.size.count in
    let small : Bool = ltb pl (length k.pixels) in
    let short : (few || small) ≡ true =
    ⊎_elim (λ x. or_left few small (lt-ltb tl k.size.count x)) (λ x. or_right few small (lt-ltb pl (length k.pixels) x)) c.short in
    let short' : (ltb tl l.size.count || ltb pl (length l.pixels)) ≡ true =
    subst (λ (x : Lent). (ltb tl x.size.count || ltb pl (length x.pixels)) ≡ true) (sym u.same) short in
    let r : Refusal = refusal_on_line wrong_length 0 in
    rw c.unplaced (rw (b.gives, b'.gives, and_then, read_job) (unless_refused (buffer_causes tl pl l) l r (inl (short', refl))))

-- every cause leads to its refusal
pub job_causes : (text : List ℕ) (tableLength pixelsLength : ℕ) → JobCausesRefuse text tableLength pixelsLength
job_causes text tl pl =
    record {
      form = form_refuses text tl pl;
      range = range_refuses text tl pl;
      sheet = sheet_refuses text tl pl;
      boxes = boxes_refuse text tl pl;
      loose = loose_refuses text tl pl;
      box = box_refuses text tl pl;
      buffers = buffers_refuse text tl pl;
    }
