-- Document 01, 'Job text' and 'When a call says no': a text that is read as a job is just a text of that job, in version 3, without a lock
-- in version 2 or, without a gap too, in version 1, so no other text is accepted. Line by line: a line that is read is written there in its
-- one spelling; the rows of a piece are its part of the pixel store; nothing follows the last line. Assumes nothing.
use Rattle.list_laws.proofs.Kit.{◌∙◌, ◌≡◌, ap, ap₂, refl, subst, sym, Bool, ◌&&◌, false, false≢true, true, ◌↔◌, inl, inr, ⊎_elim, List, [], ◌++◌, ◌∷◌}
use Rattle.list_laws.proofs.Kit.{map, ◌*◌, ◌+◌, ◌<◌, suc, zero}
use Rattle.list_laws.proofs.Kit.{ℕ, add-zero, mul_comm, suc-mul, zero-add, zero-mul, arith, eqb, leb, get_or-append, get_or, length, length-append}
use Rattle.list_laws.proofs.Kit.{get_or-append-add, eqb-true, not-false}
use Rattle.model.specs.Refusal.{Outcome, given}
use Rattle.model.specs.Lent.{Lent, lock_bound, sides_in_range, entry_columns, entry_rows, entry_turns, entry_lock, pixel_start}
use Rattle.model.specs.Text.{byte, line_end, Reading, wrong, got, onward, after, three_fields, four_fields, five_fields, line_at, or_else, fields_text, line_text}
use Rattle.model.specs.JobText.{job_word, gap_word, lock_word, version_line, job_versions, piece_word, piece_ends, row_word, JobLine, as_job_line, job_line_causes}
use Rattle.model.specs.JobText.{job_line, PieceLine, as_piece_line, piece_line_causes, piece_line}
use Rattle.model.specs.JobText.{mark_at, marks_at, row_at, Rows, rows_at, PieceText, rows_causes, as_piece_text, piece_at, Pieces, no_pieces, with_piece, pieces_at}
use Rattle.model.specs.JobText.{as_lent, buffer_causes, read_job, pixel_mark, empty_mark}
use Rattle.list_laws.proofs.Tests.{and_left}
use Rattle.text_laws.specs.JobWriting.{bytes_part, mark, row_text, rows_text, piece_text, pieces_text, plain_line, gap_line, lock_line, SaysSize}
use Rattle.text_laws.specs.JobWriting.{job_text_behind, TextOf, exact_job}
use Rattle.text_laws.specs.Exact.{JobWritten}
use Rattle.text_laws.specs.Outcomes.{Unless}
use Rattle.text_laws.proofs.Outcomes.{given_unless, given_before, given_formed, wrong_got, got_either, Onward, got_onward}
use Rattle.job_laws.proofs.Checked.{Facts, facts}
use Rattle.text_laws.proofs.JobRead.{JustRead, job_read_just, job_read_well}
use Rattle.text_laws.proofs.JobReadBack.{job_read_back}
use Rattle.text_laws.proofs.Spelling.{Spells, spells_none, spells_byte, spells_then, spells_same, spells_whole, passed, SpelledLine, line_spelled}
use Rattle.text_laws.proofs.Spelling.{three_fields_lem, four_fields_lem, five_fields_lem}

-- ── rows ──

-- the two marks
mark_step : (text : List ℕ) (p m q : ℕ) (pixel none : Bool) → eqb (byte text p) pixel_mark ≡ pixel → eqb (byte text p) empty_mark ≡ none
    → elim pixel as (λ _. Reading ℕ)
    [ true ↦ got 1 (suc p) | false ↦ elim none as (λ _. Reading ℕ) [ true ↦ got 0 (suc p) | false ↦ wrong ] ]
    ≡ got m q
    → Spells text p q (mark m ∷ [])
mark_step text p m q true none h k e =
    let value : ◌≡◌ {A = ℕ} 1 m = cc in
    let next : suc p ≡ q = cc in
    spells_same (spells_byte text p pixel_mark (eqb-true (byte text p) pixel_mark h)) next (ap (λ (b : ℕ). mark b ∷ []) value)
mark_step text p m q false true h k e =
    let value : ◌≡◌ {A = ℕ} 0 m = cc in
    let next : suc p ≡ q = cc in
    spells_same (spells_byte text p empty_mark (eqb-true (byte text p) empty_mark k)) next (ap (λ (b : ℕ). mark b ∷ []) value)
mark_step text p m q false false h k e = absurd (wrong_got e)

-- a mark that is read
mark_spelled : (text : List ℕ) (p m q : ℕ) → mark_at text p ≡ got m q → Spells text p q (mark m ∷ [])
unfolding mark_at
mark_spelled text p m q e = mark_step text p m q (eqb (byte text p) pixel_mark) (eqb (byte text p) empty_mark) refl refl e

-- marks that are read
record MarksRead (text : List ℕ) (left p q : ℕ) (ms : List ℕ) : Type 0 where
  size : length ms ≡ left
  spells : Spells text p q (map mark ms)

-- they are written there
marks_spelled : (text : List ℕ) (left p : ℕ) (ms : List ℕ) (q : ℕ) → marks_at text left p ≡ got ms q → MarksRead text left p q ms
unfolding marks_at
marks_spelled text zero p ms q e =
    let value : [] ≡ ms = cc in
    let next : p ≡ q = cc in
    rw (← value, ← next) (record { size = refl; spells = spells_none text p })
marks_spelled text (suc left) p ms q e =
    let o = got_onward (mark_at text p) _ ms q e in
    let o' = got_onward (marks_at text left o.next) _ ms q o.goes in
    let g : ◌≡◌ {A = Reading (List ℕ)} (got (o.value ∷ o'.value) o'.next) (got ms q) = o'.goes in
    let value : o.value ∷ o'.value ≡ ms = cc in
    let next : o'.next ≡ q = cc in
    let later : MarksRead text left o.next o'.next o'.value =
    marks_spelled text left o.next o'.value o'.next o'.reads in
    record {
      size = ap length (sym value) ∙ ap suc later.size;
      spells = spells_same (spells_then (mark_spelled text p o.value o.next o.reads) later.spells) next (ap (map mark) value);
    }

-- a row line that is read has l marks and is written there
pub record RowRead (text : List ℕ) (l p q : ℕ) (ms : List ℕ) : Type 0 where
  pub size : length ms ≡ l
  pub spells : Spells text p q (row_text ms)

-- it is so
pub row_spelled : (text : List ℕ) (l p : ℕ) (ms : List ℕ) (q : ℕ) → row_at text l p ≡ got ms q → RowRead text l p q ms
unfolding row_at
row_spelled text l p ms q e =
    let ending : List ℕ → ℕ → Reading (List ℕ) = λ ms' r. after (line_end ∷ []) text r (λ n. got ms' n) in
    let w = passed row_word text p (λ r. onward (marks_at text l r) ending) ms q e in
    let o : Onward (marks_at text l (p + length row_word)) ending ms q =
    got_onward (marks_at text l (p + length row_word)) ending ms q w.goes in
    let w' = passed (line_end ∷ []) text o.next (λ n. got o.value n) ms q o.goes in
    let g : ◌≡◌ {A = Reading (List ℕ)} (got o.value (o.next + 1)) (got ms q) = w'.goes in
    let value : o.value ≡ ms = cc in
    let next : o.next + 1 ≡ q = cc in
    let m : MarksRead text l (p + length row_word) o.next o.value =
    marks_spelled text l (p + length row_word) o.value o.next o.reads in
    record {
      size = ap length (sym value) ∙ m.size;
      spells = spells_same (spells_then w.spells (spells_then m.spells w'.spells)) next (ap row_text value);
    }

-- parts of stores that agree
part_agree : (xs ys : List ℕ) (s t n : ℕ) → ((i : ℕ) → i < n → get_or xs (s + i) 0 ≡ get_or ys (t + i) 0) → bytes_part xs s n ≡ bytes_part ys t n
part_agree xs ys s t zero h = refl
part_agree xs ys s t (suc n) h =
    let first : get_or xs s 0 ≡ get_or ys t 0 = simp add-zero at (h 0 (omega arith)) in
    ap₂ (λ (b : ℕ) (l : List ℕ). b ∷ l) first
    (part_agree xs ys (suc s) (suc t) n
    (λ i l.
    let x : suc s + i ≡ s + suc i = omega arith in
    let y : suc t + i ≡ t + suc i = omega arith in
    rw (x, y) (h (suc i) (omega arith))))

-- the rows of stores that agree
rows_agree : (xs ys : List ℕ) (l s t left : ℕ) → ((i : ℕ) → i < left * l → get_or xs (s + i) 0 ≡ get_or ys (t + i) 0)
    → rows_text xs l s left ≡ rows_text ys l t left
unfolding rows_text
rows_agree xs ys l s t zero h = refl
rows_agree xs ys l s t (suc left) h =
    let size : suc left * l ≡ left * l + l = suc-mul left l in
    ap₂ (λ (a b : List ℕ). a ++ b) (ap row_text (part_agree xs ys s t l (λ i b. h i (omega arith))))
    (rows_agree xs ys l (s + l) (t + l) left
    (λ i b.
    let x : s + l + i ≡ s + (l + i) = omega arith in
    let y : t + l + i ≡ t + (l + i) = omega arith in
    rw (x, y) (h (l + i) (omega arith))))

-- the front of a list is its part from 0 on
part_whole : (ms rest : List ℕ) (l : ℕ) → length ms ≡ l → bytes_part (ms ++ rest) 0 l ≡ ms
part_whole [] rest zero h = refl
part_whole [] rest (suc l) h = absurd (omega arith)
part_whole (m ∷ ms) rest zero h = absurd (omega arith)
part_whole (m ∷ ms) rest (suc l) h =
    ap (λ (k : List ℕ). m ∷ k)
    (part_agree (m ∷ (ms ++ rest)) (ms ++ rest) 1 0 l
    (λ i b.
    let x : 1 + i ≡ suc i = omega arith in
    let y : 0 + i ≡ i = omega arith in
    rw (x, y))
    ∙ part_whole ms rest l (omega arith))

-- row lines that are read
pub record RowsRead (text : List ℕ) (l left p : ℕ) (r : Rows) : Type 0 where
  pub size : length r.pixels ≡ left * l
  pub spells : Spells text p r.next (rows_text r.pixels l 0 left)

-- a row in front of the others
rows_in_front : (l left : ℕ) (ms rest : List ℕ) → length ms ≡ l
    → rows_text (ms ++ rest) l 0 (suc left) ≡ row_text ms ++ rows_text rest l 0 left
unfolding rows_text
rows_in_front l left ms rest h =
    ap₂ (λ (a b : List ℕ). a ++ b) (ap row_text (part_whole ms rest l h))
    (rows_agree (ms ++ rest) rest l (0 + l) 0 left
    (λ i b.
    let x : 0 + l + i ≡ length ms + i = omega arith in
    let y : 0 + i ≡ i = omega arith in
    rw (x, y) (get_or-append-add ms rest i 0)))

-- they are written there
pub rows_spelled : (text : List ℕ) (l left p line : ℕ) (r : Rows) → rows_at text l left p line ≡ given r → RowsRead text l left p r
unfolding rows_at rows_text
rows_spelled text l zero p line r e =
    let z : ◌≡◌ {A = Rows} (record { pixels = []; next = p }) r = cc in
    rw (← z) (record { size = sym (zero-mul l); spells = spells_none text p })
rows_spelled text l (suc left) p line r e =
    let f = given_formed line (row_at text l p) _ r e in
    let b = given_before (rows_at text l left f.next (suc line)) _ r f.goes in
    let first : RowRead text l p f.next f.value = row_spelled text l p f.value f.next f.reads in
    let later : RowsRead text l left f.next b.value = rows_spelled text l left f.next (suc line) b.value b.gives in
    let whole : Rows = record { pixels = f.value ++ b.value.pixels; next = b.value.next } in
    let g : ◌≡◌ {A = Outcome Rows} (given whole) (given r) = b.goes in
    let z : whole ≡ r = cc in
    let spelled : Spells text p b.value.next (rows_text (f.value ++ b.value.pixels) l 0 (suc left)) =
    spells_same (spells_then first.spells later.spells) refl
    (sym (rows_in_front l left f.value b.value.pixels first.size)) in
    let all : RowsRead text l (suc left) p whole =
    record {
      size = length-append f.value b.value.pixels ∙ (let h = first.size in let k = later.size in omega (arith, suc-mul left l));
      spells = spelled;
    } in
    subst (RowsRead text l (suc left) p) z all

-- ── a piece ──

-- the numbers of a piece line; without a lock the last of them is not written
abbrev pub line_numbers : ℕ → ℕ → ℕ → ℕ → ℕ → List ℕ
line_numbers i l w o lock = i ∷ l ∷ w ∷ o ∷ lock ∷ []

-- the piece line of piece i
abbrev pub numbers_text : Bool → ℕ → PieceLine → List ℕ
numbers_text locks i h = line_text piece_word (piece_ends locks) (line_numbers i h.columns h.rows h.turns h.lock)

-- the numbers that are read are those of the line; where no lock is read, the line's is 0
record NumbersRead (locks : Bool) (ks : List ℕ) (next : ℕ) : Type 0 where
  written : line_text piece_word (piece_ends locks) ks ≡ numbers_text locks (as_piece_line ks next).number (as_piece_line ks next)
  free : locks ≡ false → (as_piece_line ks next).lock ≡ 0

-- they are so
numbers_read : (locks : Bool) (ks : List ℕ) (next : ℕ) → length ks ≡ length (piece_ends locks) → NumbersRead locks ks next
unfolding fields_text
numbers_read true ks next size =
    record { written = ap (line_text piece_word five_fields) (sym (five_fields_lem ks size)); free = λ e. absurd (false≢true (sym e)) }
numbers_read false ks next size =
    let four = four_fields_lem ks size in
    record {
      written = ap (line_text piece_word four_fields) (sym four);
      free = λ e. sym (ap (λ (l : List ℕ). get_or l 4 0) four);
    }

-- a piece line that is given is written with the piece's number, and has the lock 0 where none is written
pub record PieceLineRead (text : List ℕ) (locks : Bool) (i p : ℕ) (h : PieceLine) : Type 0 where
  pub spells : Spells text p h.next (numbers_text locks i h)
  pub free : locks ≡ false → h.lock ≡ 0

-- it is so
pub piece_line_spelled : (text : List ℕ) (j : JobLine) (i area p line : ℕ) (h : PieceLine) → piece_line text j i area p line ≡ given h
    → PieceLineRead text j.locks i p h
unfolding piece_line
piece_line_spelled text j i area p line h e =
    let ends : List ℕ = piece_ends j.locks in
    let f = given_formed line (line_at piece_word ends text p) _ h e in
    let ks : List ℕ = f.value in
    let k : PieceLine = as_piece_line ks f.next in
    let u : Unless (piece_line_causes line j i area k) k h = given_unless (piece_line_causes line j i area k) k h f.goes in
    let r : SpelledLine piece_word ends text p f.next ks = line_spelled piece_word ends text p ks f.next f.reads in
    let n : NumbersRead j.locks ks f.next = numbers_read j.locks ks f.next r.size in
    let a : Bool = eqb k.number i in
    let b : Bool = sides_in_range k.columns k.rows k.turns in
    let c : Bool = leb k.lock lock_bound in
    let ranges : (a && b && c) ≡ true = not-false (a && b && c) u.none.0 in
    let number : k.number ≡ i = eqb-true k.number i (and_left a b (and_left (a && b) c ranges)) in
    let all : PieceLineRead text j.locks i p k =
    record {
      spells = spells_same r.spells refl (n.written ∙ ap (λ (m : ℕ). numbers_text j.locks m k) number);
      free = n.free;
    } in
    subst (PieceLineRead text j.locks i p) u.same all

-- what the piece line of a piece that is given says
abbrev head_of : ℕ → PieceText → PieceLine
head_of i h = record { number = i; columns = h.columns; rows = h.rows; turns = h.turns; lock = h.lock; next = h.next }

-- the lines of a piece that is given
record PieceRead (text : List ℕ) (locks : Bool) (i p : ℕ) (h : PieceText) : Type 0 where
  size : length h.pixels ≡ h.rows * h.columns
  spells : Spells text p h.next (numbers_text locks i (head_of i h) ++ rows_text h.pixels h.columns 0 h.rows)
  free : locks ≡ false → h.lock ≡ 0

-- they are written there
piece_spelled : (text : List ℕ) (j : JobLine) (i area p line : ℕ) (h : PieceText) → piece_at text j i area p line ≡ given h
    → PieceRead text j.locks i p h
unfolding piece_at
piece_spelled text j i area p line h e =
    let b = given_before (piece_line text j i area p line) _ h e in
    let k : PieceLine = b.value in
    let b' = given_before (rows_at text k.columns k.rows k.next (suc line)) _ h b.goes in
    let r : Rows = b'.value in
    let u : Unless (rows_causes line k r) (as_piece_text k r) h = given_unless (rows_causes line k r) (as_piece_text k r) h b'.goes in
    let rows : RowsRead text k.columns k.rows k.next r =
    rows_spelled text k.columns k.rows k.next (suc line) r b'.gives in
    let head : PieceLineRead text j.locks i p k = piece_line_spelled text j i area p line k b.gives in
    let all : PieceRead text j.locks i p (as_piece_text k r) =
    record { size = rows.size; spells = spells_then head.spells rows.spells; free = head.free } in
    subst (PieceRead text j.locks i p) u.same all

-- ── the pieces ──

-- the pieces of a job from number i on are those that are read
record Continues (k : Lent) (i left : ℕ) (r : Pieces) : Type 0 where
  entries : (m : ℕ) → m < left → get_or k.table (i + m) [] ≡ get_or r.table m []
  bytes : (m : ℕ) → m < length r.pixels → get_or k.pixels (pixel_start k.table i + m) 0 ≡ get_or r.pixels m 0

-- the lines of one piece in the job
piece_in_job : (locks : Bool) (k : Lent) (i : ℕ) (h : PieceText) (rest : List ℕ) → length h.pixels ≡ h.rows * h.columns
    → get_or k.table i [] ≡ h.columns ∷ h.rows ∷ h.turns ∷ h.lock ∷ []
    → ((m : ℕ) → m < length (h.pixels ++ rest) → get_or k.pixels (pixel_start k.table i + m) 0 ≡ get_or (h.pixels ++ rest) m 0)
    → numbers_text locks i (head_of i h) ++ rows_text h.pixels h.columns 0 h.rows ≡ piece_text locks k i
piece_in_job locks k i h rest size entry bytes =
    let l : entry_columns k.table i ≡ h.columns = ap (λ (e : List ℕ). get_or e 0 0) entry in
    let w : entry_rows k.table i ≡ h.rows = ap (λ (e : List ℕ). get_or e 1 0) entry in
    let o : entry_turns k.table i ≡ h.turns = ap (λ (e : List ℕ). get_or e 2 0) entry in
    let lock : entry_lock k.table i ≡ h.lock = ap (λ (e : List ℕ). get_or e 3 0) entry in
    let rows : rows_text h.pixels h.columns 0 h.rows ≡ rows_text k.pixels h.columns (pixel_start k.table i) h.rows =
    rows_agree h.pixels k.pixels h.columns 0 (pixel_start k.table i) h.rows
    (λ m b.
    let within : m < length h.pixels = omega arith in
    ap (λ (n : ℕ). get_or h.pixels n 0) (zero-add m)
    ∙ sym (get_or-append h.pixels rest 0 m within)
    ∙ sym (bytes m (let a = length-append h.pixels rest in omega arith))) in
    rw (l, w, o, lock, rows)

-- the pieces that are given reach to the end of the text and are those of the job
pieces_spelled : (text : List ℕ) (j : JobLine) (k : Lent) (left i area p line : ℕ) (r : Pieces) → Continues k i left r
    → pieces_at text j left i area p line ≡ given r → Spells text p (length text) (pieces_text j.locks k i left)
unfolding pieces_at pieces_text pixel_start
pieces_spelled text j k zero i area p line r c e =
    let u : Unless _ no_pieces r = given_unless _ no_pieces r e in
    let end : p ≡ length text = eqb-true p (length text) (not-false (eqb p (length text)) u.none.0) in
    spells_same (spells_none text p) end refl
pieces_spelled text j k (suc left) i area p line r c e =
    let b = given_before (piece_at text j i area p line) _ r e in
    let h : PieceText = b.value in
    let b' = given_before (pieces_at text j left (suc i) (area + h.columns * h.rows) h.next (suc (line + h.rows))) _ r b.goes in
    let r' : Pieces = b'.value in
    let g : ◌≡◌ {A = Outcome Pieces} (given (with_piece h r')) (given r) = b'.goes in
    let z : with_piece h r' ≡ r = cc in
    let c' : Continues k i (suc left) (with_piece h r') = subst (Continues k i (suc left)) (sym z) c in
    let first : PieceRead text j.locks i p h = piece_spelled text j i area p line h b.gives in
    let entry : get_or k.table i [] ≡ h.columns ∷ h.rows ∷ h.turns ∷ h.lock ∷ [] = rw add-zero at (c'.entries 0 (omega arith)) in
    let here = piece_in_job j.locks k i h r'.pixels first.size entry c'.bytes in
    let l : entry_columns k.table i ≡ h.columns = ap (λ (e : List ℕ). get_or e 0 0) entry in
    let w : entry_rows k.table i ≡ h.rows = ap (λ (e : List ℕ). get_or e 1 0) entry in
    let start : pixel_start k.table (suc i) ≡ pixel_start k.table i + length h.pixels =
    let a : entry_columns k.table i * entry_rows k.table i ≡ h.columns * h.rows = rw (l, w) in
    let s = first.size in
    omega (arith, mul_comm h.rows h.columns) in
    let later : Continues k (suc i) left r' =
    record {
      entries = λ m b''. let x : suc i + m ≡ i + suc m = omega arith in rw x (c'.entries (suc m) (omega arith));
      bytes = λ m b''.
          let x : pixel_start k.table (suc i) + m ≡ pixel_start k.table i + (length h.pixels + m) = omega arith in
          ap (λ (n : ℕ). get_or k.pixels n 0) x
          ∙ c'.bytes (length h.pixels + m) (let a = length-append h.pixels r'.pixels in omega arith)
          ∙ get_or-append-add h.pixels r'.pixels m 0;
    } in
    spells_then (spells_same first.spells refl here)
    (pieces_spelled text j k left (suc i) (area + h.columns * h.rows) h.next (suc (line + h.rows)) r' later b'.gives)

-- where piece lines have no lock, the pieces that are given are free
pieces_free : (text : List ℕ) (j : JobLine) (left i area p line : ℕ) (r : Pieces) → j.locks ≡ false
    → pieces_at text j left i area p line ≡ given r → (m : ℕ) → m < left → entry_lock r.table m ≡ 0
unfolding pieces_at
pieces_free text j zero i area p line r none e m l = absurd (omega arith)
pieces_free text j (suc left) i area p line r none e m l =
    let b = given_before (piece_at text j i area p line) _ r e in
    let h : PieceText = b.value in
    let b' = given_before (pieces_at text j left (suc i) (area + h.columns * h.rows) h.next (suc (line + h.rows))) _ r b.goes in
    let r' : Pieces = b'.value in
    let g : ◌≡◌ {A = Outcome Pieces} (given (with_piece h r')) (given r) = b'.goes in
    let z : with_piece h r' ≡ r = cc in
    let first : h.lock ≡ 0 = (piece_spelled text j i area p line h b.gives).free none in
    let later : (m' : ℕ) → m' < left → entry_lock r'.table m' ≡ 0 =
    pieces_free text j left (suc i) (area + h.columns * h.rows) h.next (suc (line + h.rows)) r' none b'.gives in
    subst (λ (x : Pieces). entry_lock x.table m ≡ 0) z (each h r' left first later m l)
  where
    -- the piece in front, or a later one
    each : (h : PieceText) (r' : Pieces) (left : ℕ) → h.lock ≡ 0 → ((m' : ℕ) → m' < left → entry_lock r'.table m' ≡ 0) → (m : ℕ) → m < suc left
        → entry_lock (with_piece h r').table m ≡ 0
    each h r' left first later zero l = first
    each h r' left first later (suc m) l = later m (omega arith)

-- ── the job ──

-- a job line that is given is written there, in one of the versions
pub record JobLineSpelled (text : List ℕ) (j : JobLine) : Type 0 where
  pub line : List ℕ
  pub says : SaysSize j.size j.locks line
  pub spells : Spells text 0 j.next line

-- the numbers of a line of version 1
plain_spelled : (text : List ℕ) (ks : List ℕ) (next : ℕ) → line_at job_word three_fields text 0 ≡ got ks next
    → JobLineSpelled text (as_job_line false ks next)
plain_spelled text ks next e =
    let r : SpelledLine job_word three_fields text 0 next ks = line_spelled job_word three_fields text 0 ks next e in
    let three = three_fields_lem ks r.size in
    record {
      line = plain_line (as_job_line false ks next).size;
      says = inr (refl, sym (ap (λ (l : List ℕ). get_or l 3 0) three));
      spells = spells_same r.spells refl (ap (line_text job_word three_fields) (sym three));
    }

-- the numbers of a line of version 2
gap_spelled : (text : List ℕ) (ks : List ℕ) (next : ℕ) → line_at gap_word four_fields text 0 ≡ got ks next
    → JobLineSpelled text (as_job_line false ks next)
gap_spelled text ks next e =
    let r : SpelledLine gap_word four_fields text 0 next ks = line_spelled gap_word four_fields text 0 ks next e in
    record {
      line = gap_line (as_job_line false ks next).size;
      says = inl refl;
      spells = spells_same r.spells refl (ap (line_text gap_word four_fields) (sym (four_fields_lem ks r.size)));
    }

-- the numbers of a line of version 3
lock_spelled : (text : List ℕ) (ks : List ℕ) (next : ℕ) → line_at lock_word four_fields text 0 ≡ got ks next
    → JobLineSpelled text (as_job_line true ks next)
lock_spelled text ks next e =
    let r : SpelledLine lock_word four_fields text 0 next ks = line_spelled lock_word four_fields text 0 ks next e in
    record {
      line = lock_line (as_job_line true ks next).size;
      says = refl;
      spells = spells_same r.spells refl (ap (line_text lock_word four_fields) (sym (four_fields_lem ks r.size)));
    }

-- a line of a version whose numbers are written there
version_spelled : (word ends : List ℕ) (locks : Bool) (text : List ℕ) (j : JobLine) (next : ℕ)
    → ((ks : List ℕ) (n : ℕ) → line_at word ends text 0 ≡ got ks n → JobLineSpelled text (as_job_line locks ks n))
    → version_line word ends locks text ≡ got j next → JobLineSpelled text j
version_spelled word ends locks text j next spelled e =
    let o = got_onward (line_at word ends text 0) _ j next e in
    let g : ◌≡◌ {A = Reading JobLine} (got (as_job_line locks o.value o.next) o.next) (got j next) = o.goes in
    let z : as_job_line locks o.value o.next ≡ j = cc in
    subst (JobLineSpelled text) z (spelled o.value o.next o.reads)

-- the job line that is given is written there
pub job_line_spelled : (text : List ℕ) (j : JobLine) → job_line text ≡ given j → JobLineSpelled text j
unfolding job_line
job_line_spelled text j e =
    let f = given_formed 1 (job_versions text) _ j e in
    let k : JobLine = f.value in
    let u : Unless (job_line_causes k) k j = given_unless (job_line_causes k) k j f.goes in
    let one : Reading JobLine = version_line job_word three_fields false text in
    let two : Reading JobLine = version_line gap_word four_fields false text in
    let three : Reading JobLine = version_line lock_word four_fields true text in
    rw (← u.same)
    (⊎_elim (version_spelled job_word three_fields false text k f.next (plain_spelled text))
    (λ later.
    ⊎_elim (version_spelled gap_word four_fields false text k f.next (gap_spelled text))
    (version_spelled lock_word four_fields true text k f.next (lock_spelled text)) (got_either two three k f.next later))
    (got_either one (or_else two three) k f.next f.reads))

-- a job line and pieces that are given make just the job's text
pub pieces_only_text : (text : List ℕ) (j : JobLine) (r : Pieces) → job_line text ≡ given j
    → pieces_at text j j.size.count 0 0 j.next 2 ≡ given r → TextOf text (as_lent j r)
unfolding job_text_behind pixel_start
pieces_only_text text j r e f =
    let k : Lent = as_lent j r in
    let all : Continues k 0 j.size.count r =
    record { entries = λ m b. rw zero-add; bytes = λ m b. ap (λ (n : ℕ). get_or r.pixels n 0) (zero-add m) } in
    let s : JobLineSpelled text j = job_line_spelled text j e in
    record {
      locks = j.locks;
      line = s.line;
      says = s.says;
      unlocked = λ none. pieces_free text j j.size.count 0 0 j.next 2 r none f;
      written = spells_whole (spells_then s.spells (pieces_spelled text j k j.size.count 0 0 j.next 2 r all f));
    }

-- a text that is read as a job is a text of that job
pub job_only_text : (text : List ℕ) (tableLength pixelsLength : ℕ) (k : Lent) → read_job text tableLength pixelsLength ≡ given k → TextOf text k
unfolding read_job
job_only_text text tableLength pixelsLength k e =
    let b = given_before (job_line text) _ k e in
    let j : JobLine = b.value in
    let b' = given_before (pieces_at text j j.size.count 0 0 j.next 2) _ k b.goes in
    let r : Pieces = b'.value in
    let u : Unless (buffer_causes tableLength pixelsLength (as_lent j r)) (as_lent j r) k =
    given_unless (buffer_causes tableLength pixelsLength (as_lent j r)) (as_lent j r) k b'.goes in
    rw (← u.same) (pieces_only_text text j r b.gives b'.gives)

-- a job that is read is all that its buffers hold of it
read_whole : (text : List ℕ) (tableLength pixelsLength : ℕ) (k : Lent) → read_job text tableLength pixelsLength ≡ given k → exact_job k ≡ k
read_whole text tableLength pixelsLength k e =
    let just : JustRead tableLength pixelsLength k = job_read_just text tableLength pixelsLength k e in
    let t : TextOf text k = job_only_text text tableLength pixelsLength k e in
    let again : read_job (job_text_behind t.locks t.line k) tableLength pixelsLength ≡ given (exact_job k) =
    job_read_back k (job_read_well text tableLength pixelsLength k e) t.locks t.line t.says t.unlocked tableLength pixelsLength
    just.entries_room
    (let b = just.bytes in let r = just.bytes_room in omega arith) in
    let same : ◌≡◌ {A = Outcome Lent} (given (exact_job k)) (given k) =
    sym again ∙ ap (λ (s : List ℕ). read_job s tableLength pixelsLength) (sym t.written) ∙ e in
    cc

-- reading gives a job exactly where the text is one of its texts, it passes the check, nothing lies beyond it and the buffers suffice
pub job_read_exactly : (text : List ℕ) (tableLength pixelsLength : ℕ) (k : Lent)
    → (read_job text tableLength pixelsLength ≡ given k) ↔ JobWritten text tableLength pixelsLength k
job_read_exactly text tableLength pixelsLength k = (
  (λ e.
      let just : JustRead tableLength pixelsLength k = job_read_just text tableLength pixelsLength k e in
      record {
        written = job_only_text text tableLength pixelsLength k e;
        well = job_read_well text tableLength pixelsLength k e;
        whole = read_whole text tableLength pixelsLength k e;
        entries_room = just.entries_room;
        bytes_room = just.bytes_room;
      }),
  (λ w.
      let f : Facts k = facts k w.well in
      let t : TextOf text k = w.written in
      rw t.written
      (job_read_back k w.well t.locks t.line t.says t.unlocked tableLength pixelsLength w.entries_room
      (let s = f.store in let r = w.bytes_room in omega arith)
      ∙ ap (λ (l : Lent). given l) w.whole)),
)
