-- Document 01, 'When a call says no': what reading a job gives passes the check of a lent job, so that no call refuses it with 8.
-- A given outcome met no cause on any line; line by line that is what the check asks for. The pieces are read from the first
-- on, and a piece in front moves the later ones by its area in the store. Assumes nothing.
use Rattle.list_laws.proofs.Kit.{◌∙◌, ◌≡◌, ap, fun_ext, refl, sym, Bool, ◌&&◌, false, true, List, [], ◌++◌, ◌∷◌, ◌*◌, ◌+◌, ◌<◌, ◌≤◌, suc, zero, ℕ}
use Rattle.list_laws.proofs.Kit.{mul_comm, suc-mul, zero-add, zero-mul, arith, eqb, leb, ltb, get_or-append, get_or, length, length-append, get_or-append-add}
use Rattle.list_laws.proofs.Kit.{le-leb, ltb-false, not-false}
use Rattle.model.specs.Piece.{Shape, tight, side_bound}
use Rattle.model.specs.Refusal.{Outcome, given}
use Rattle.model.specs.Lent.{Lent, lock_bound, area_bound, numbers_in_range, sides_in_range, entry_columns, entry_rows, pixel_start, entry_in_range, entry_fits}
use Rattle.model.specs.Lent.{lent_shape, sheet_in_range, lent_well}
use Rattle.model.specs.Text.{byte, Reading, wrong, got, onward, after, line_end, line_at}
use Rattle.model.specs.JobText.{job_versions, piece_word, piece_ends, row_word, JobLine, job_line_causes, job_line, PieceLine, as_piece_line, piece_in_range}
use Rattle.model.specs.JobText.{piece_line_causes}
use Rattle.model.specs.JobText.{piece_line, pixel_mark, empty_mark, mark_at, marks_at, row_at, Rows, rows_at, box_shape, PieceText, rows_causes, as_piece_text, piece_at}
use Rattle.model.specs.JobText.{Pieces, no_pieces, with_piece, pieces_at, as_lent, buffer_causes, read_job}
use Rattle.list_laws.proofs.Numbers.{in_rows_lem}
use Rattle.list_laws.proofs.Tests.{and_left, and_right, and_both, or_neither}
use Rattle.job_laws.proofs.Ranges.{at_least, side_facts}
use Rattle.text_laws.specs.Outcomes.{Unless}
use Rattle.text_laws.proofs.Outcomes.{given_unless, given_before, given_formed, wrong_got, Onward, got_onward, got_after}
use Rattle.job_laws.proofs.Checked.{well}
use Rattle.text_laws.proofs.Store.{start_after, tight_agree}

-- ── rows ──

-- all bytes are 0 or 1
abbrev pub AllBits : List ℕ → Type 0
AllBits [] = Unit {0}
AllBits (b ∷ bs) = (b ≤ 1) × AllBits bs

-- such bytes one after the other
bits_append : (bs cs : List ℕ) → AllBits bs → AllBits cs → AllBits (bs ++ cs)
bits_append [] cs h k = k
bits_append (b ∷ bs) cs h k = (h.0, bits_append bs cs h.1 k)

-- each of them
bits_at : (bs : List ℕ) → AllBits bs → (k : ℕ) → get_or bs k 0 ≤ 1
bits_at [] h k = omega arith
bits_at (b ∷ bs) h zero = h.0
bits_at (b ∷ bs) h (suc k) = bits_at bs h.1 k

-- so many bytes, each 0 or 1
pub record Bits (n : ℕ) (bs : List ℕ) : Type 0 where
  pub size : length bs ≡ n
  pub bits : AllBits bs

-- the two marks
mark_step : (p m q : ℕ) (pixel none : Bool)
    → elim pixel as (λ _. Reading ℕ) [ true ↦ got 1 (suc p) | false ↦ elim none as (λ _. Reading ℕ) [ true ↦ got 0 (suc p) | false ↦ wrong ] ] ≡ got m q
    → m ≤ 1
mark_step p m q true none e = let z : ◌≡◌ {A = ℕ} 1 m = cc in omega arith
mark_step p m q false true e = let z : ◌≡◌ {A = ℕ} 0 m = cc in omega arith
mark_step p m q false false e = absurd (wrong_got e)

-- a mark that is read is 0 or 1
mark_read : (text : List ℕ) (p m q : ℕ) → mark_at text p ≡ got m q → m ≤ 1
unfolding mark_at
mark_read text p m q e = mark_step p m q (eqb (byte text p) pixel_mark) (eqb (byte text p) empty_mark) e

-- marks that are read are so many bytes
marks_read : (text : List ℕ) (left p : ℕ) (ms : List ℕ) (q : ℕ) → marks_at text left p ≡ got ms q → Bits left ms
unfolding marks_at
marks_read text zero p ms q e = let z : [] ≡ ms = cc in rw (← z) (record { size = refl; bits = tt })
marks_read text (suc left) p ms q e =
    let o = got_onward (mark_at text p) _ ms q e in
    let o' = got_onward (marks_at text left o.next) _ ms q o.goes in
    let b : Bits left o'.value = marks_read text left o.next o'.value o'.next o'.reads in
    let g : ◌≡◌ {A = Reading (List ℕ)} (got (o.value ∷ o'.value) o'.next) (got ms q) = o'.goes in
    let z : o.value ∷ o'.value ≡ ms = cc in
    rw (← z) (record { size = ap suc b.size; bits = (mark_read text p o.value o.next o.reads, b.bits) })

-- a row line that is read
row_read : (text : List ℕ) (l p : ℕ) (ms : List ℕ) (q : ℕ) → row_at text l p ≡ got ms q → Bits l ms
unfolding row_at
row_read text l p ms q e =
    let ending : List ℕ → ℕ → Reading (List ℕ) = λ ms' r. after (line_end ∷ []) text r (λ n. got ms' n) in
    let o : Onward (marks_at text l (p + length row_word)) ending ms q =
    got_onward (marks_at text l (p + length row_word)) ending ms q
    (got_after row_word text p (λ r. onward (marks_at text l r) ending) ms q e) in
    let g : ◌≡◌ {A = Reading (List ℕ)} (got o.value (o.next + 1)) (got ms q) =
    got_after (line_end ∷ []) text o.next (λ n. got o.value n) ms q o.goes in
    let z : o.value ≡ ms = cc in
    rw (← z) (marks_read text l (p + length row_word) o.value o.next o.reads)

-- row lines that are read
rows_read : (text : List ℕ) (l left p line : ℕ) (r : Rows) → rows_at text l left p line ≡ given r → Bits (left * l) r.pixels
unfolding rows_at
rows_read text l zero p line r e =
    let z : ◌≡◌ {A = Rows} (record { pixels = []; next = p }) r = cc in
    rw (← z) (record { size = sym (zero-mul l); bits = tt })
rows_read text l (suc left) p line r e =
    let f = given_formed line (row_at text l p) _ r e in
    let b = given_before (rows_at text l left f.next (suc line)) _ r f.goes in
    let first : Bits l f.value = row_read text l p f.value f.next f.reads in
    let later : Bits (left * l) b.value.pixels = rows_read text l left f.next (suc line) b.value b.gives in
    let g : ◌≡◌ {A = Outcome Rows} (given (record { pixels = f.value ++ b.value.pixels; next = b.value.next })) (given r) = b.goes in
    let z : ◌≡◌ {A = Rows} (record { pixels = f.value ++ b.value.pixels; next = b.value.next }) r = cc in
    rw (← z)
    (record {
      size = length-append f.value b.value.pixels ∙ (let h = first.size in let k = later.size in omega (arith, suc-mul left l));
      bits = bits_append f.value b.value.pixels first.bits later.bits;
    })

-- ── a piece ──

-- what is known of a piece line that is given, with the areas of the boxes before it
pub record LineWell (j : JobLine) (area l w o lock : ℕ) : Type 0 where
  pub ranges : sides_in_range l w o ≡ true
  pub lock_small : leb lock lock_bound ≡ true
  pub long : l ≤ j.size.columns
  pub high : w ≤ j.size.rows
  pub areas : area + l * w ≤ area_bound

-- a piece line that is given
pub piece_line_read : (text : List ℕ) (j : JobLine) (i area p line : ℕ) (h : PieceLine) → piece_line text j i area p line ≡ given h
    → LineWell j area h.columns h.rows h.turns h.lock
unfolding piece_line
piece_line_read text j i area p line h e =
    let f = given_formed line (line_at piece_word (piece_ends j.locks) text p) _ h e in
    let k : PieceLine = as_piece_line f.value f.next in
    let u : Unless (piece_line_causes line j i area k) k h = given_unless (piece_line_causes line j i area k) k h f.goes in
    let ranges : piece_in_range i k ≡ true = not-false (piece_in_range i k) u.none.0 in
    let fit = or_neither (ltb j.size.columns k.columns) (ltb j.size.rows k.rows) u.none.1.0 in
    let a : Bool = eqb k.number i in
    let b : Bool = sides_in_range k.columns k.rows k.turns in
    let c : Bool = leb k.lock lock_bound in
    rw (← u.same)
    (record {
      ranges = and_right a b (and_left (a && b) c ranges);
      lock_small = and_right (a && b) c ranges;
      long = ltb-false j.size.columns k.columns fit.0;
      high = ltb-false j.size.rows k.rows fit.1;
      areas = ltb-false area_bound (area + k.columns * k.rows) u.none.1.1.0;
    })

-- what is known of a piece that is given
pub record PieceWell (j : JobLine) (area : ℕ) (h : PieceText) : Type 0 where
  pub line : LineWell j area h.columns h.rows h.turns h.lock
  pub store : Bits (h.rows * h.columns) h.pixels
  pub tight_box : tight (box_shape h.columns h.rows h.pixels) ≡ true

-- a piece that is given
piece_read : (text : List ℕ) (j : JobLine) (i area p line : ℕ) (h : PieceText) → piece_at text j i area p line ≡ given h → PieceWell j area h
unfolding piece_at
piece_read text j i area p line h e =
    let b = given_before (piece_line text j i area p line) _ h e in
    let k : PieceLine = b.value in
    let b' = given_before (rows_at text k.columns k.rows k.next (suc line)) _ h b.goes in
    let r : Rows = b'.value in
    let u : Unless (rows_causes line k r) (as_piece_text k r) h = given_unless (rows_causes line k r) (as_piece_text k r) h b'.goes in
    rw (← u.same)
    (record {
      line = piece_line_read text j i area p line k b.gives;
      store = rows_read text k.columns k.rows k.next (suc line) r b'.gives;
      tight_box = not-false (tight (box_shape k.columns k.rows r.pixels)) u.none.0;
    })

-- ── the pieces ──

-- the pixels of piece i in a table and a store
abbrev pub stored_shape : Pieces → ℕ → Shape
stored_shape r i = lent_shape (record { size = record { rows = 0; columns = 0; count = 0; gap = 0 }; table = r.table; pixels = r.pixels }) i

-- what is known of `left` pieces that are given, with the areas of the boxes before them
pub record PiecesWell (j : JobLine) (left area : ℕ) (r : Pieces) : Type 0 where
  pub entries : length r.table ≡ left
  pub ranges : (i : ℕ) → i < left → entry_in_range r.table i ≡ true
  pub fits : (i : ℕ) → i < left → entry_fits j.size r.table i ≡ true
  pub areas : area + pixel_start r.table left ≤ area_bound
  pub store : Bits (pixel_start r.table left) r.pixels
  pub tight_boxes : (i : ℕ) → i < left → tight (stored_shape r i) ≡ true

-- sides in range are above nought
pub sides_some : (l w o : ℕ) → sides_in_range l w o ≡ true → (0 < l) × (0 < w)
sides_some l w o e = let s = side_facts l w o e in (at_least side_bound l s.columns, at_least side_bound w s.rows)

module _ (j : JobLine) (left area : ℕ) (h : PieceText) (r : Pieces) (first : PieceWell j area h)
    (later : PiecesWell j left (area + h.columns * h.rows) r) where
  -- the piece in front has its own bytes
  front_size : length h.pixels ≡ h.columns * h.rows
  front_size = first.store.size ∙ mul_comm h.rows h.columns

  -- its box is tight in the whole store too
  front_tight : tight (stored_shape (with_piece h r) 0) ≡ true
  unfolding pixel_start
  front_tight =
      tight_agree (stored_shape (with_piece h r) 0) (box_shape h.columns h.rows h.pixels)
      (record {
        columns = refl;
        rows = refl;
        wide = (sides_some h.columns h.rows h.turns first.line.ranges).0;
        high = (sides_some h.columns h.rows h.turns first.line.ranges).1;
        has = λ x y hx hy.
            ap (λ (b : ℕ). eqb b 1)
            (ap (λ (k : ℕ). get_or (h.pixels ++ r.pixels) k 0) (zero-add (y * h.columns + x))
            ∙ get_or-append h.pixels r.pixels 0 (y * h.columns + x)
            (let s = first.store.size in let m : y * h.columns + x < h.rows * h.columns = in_rows_lem hx hy in omega arith));
      })
      ∙ first.tight_box

  -- the later pieces are as they were, further on in the store
  later_shape : (i : ℕ) → stored_shape (with_piece h r) (suc i) ≡ stored_shape r i
  later_shape i =
      let l : ℕ = entry_columns r.table i in
      let e : List ℕ = h.columns ∷ h.rows ∷ h.turns ∷ h.lock ∷ [] in
      ap (λ (f : ℕ → ℕ → Bool). record { columns = l; rows = entry_rows r.table i; has = f })
      (fun_ext λ x.
      fun_ext λ y.
      ap (λ (b : ℕ). eqb b 1)
      (ap (λ (k : ℕ). get_or (h.pixels ++ r.pixels) k 0)
      (let s = front_size in let k = start_after e r.table i in omega arith)
      ∙ get_or-append-add h.pixels r.pixels (pixel_start r.table i + (y * l + x)) 0))

  -- every entry is in range
  all_ranges : (i : ℕ) → i < suc left → entry_in_range (with_piece h r).table i ≡ true
  unfolding entry_in_range
  all_ranges zero l = and_both first.line.ranges first.line.lock_small
  all_ranges (suc i) l = later.ranges i (omega arith)

  -- every box fits into the sheet
  all_fits : (i : ℕ) → i < suc left → entry_fits j.size (with_piece h r).table i ≡ true
  unfolding entry_fits
  all_fits zero l = and_both (le-leb h.columns j.size.columns first.line.long) (le-leb h.rows j.size.rows first.line.high)
  all_fits (suc i) l = later.fits i (omega arith)

  -- every box is tight
  all_tight : (i : ℕ) → i < suc left → tight (stored_shape (with_piece h r) i) ≡ true
  all_tight zero l = front_tight
  all_tight (suc i) l = ap tight (later_shape i) ∙ later.tight_boxes i (omega arith)

  -- a piece in front of the later ones
  piece_in_front : PiecesWell j (suc left) area (with_piece h r)
  piece_in_front =
      let start = start_after (h.columns ∷ h.rows ∷ h.turns ∷ h.lock ∷ []) r.table left in
      record {
        entries = ap suc later.entries;
        ranges = all_ranges;
        fits = all_fits;
        areas = let a = later.areas in omega arith;
        store =
            record {
              size = length-append h.pixels r.pixels ∙ (let a = front_size in let b = later.store.size in omega arith);
              bits = bits_append h.pixels r.pixels first.store.bits later.store.bits;
            };
        tight_boxes = all_tight;
      }

-- no piece
none_well : (j : JobLine) (area : ℕ) → area ≤ area_bound → PiecesWell j 0 area no_pieces
unfolding pixel_start
none_well j area h =
    record {
      entries = refl;
      ranges = λ i l. absurd (omega arith);
      fits = λ i l. absurd (omega arith);
      areas = omega arith;
      store = record { size = refl; bits = tt };
      tight_boxes = λ i l. absurd (omega arith);
    }

-- pieces that are read
pieces_read : (text : List ℕ) (j : JobLine) (left i area p line : ℕ) (r : Pieces) → area ≤ area_bound
    → pieces_at text j left i area p line ≡ given r → PiecesWell j left area r
unfolding pieces_at
pieces_read text j zero i area p line r a e =
    let u : Unless _ no_pieces r = given_unless _ no_pieces r e in
    rw (← u.same) (none_well j area a)
pieces_read text j (suc left) i area p line r a e =
    let b = given_before (piece_at text j i area p line) _ r e in
    let h : PieceText = b.value in
    let first : PieceWell j area h = piece_read text j i area p line h b.gives in
    let b' = given_before (pieces_at text j left (suc i) (area + h.columns * h.rows) h.next (suc (line + h.rows))) _ r b.goes in
    let later : PiecesWell j left (area + h.columns * h.rows) b'.value =
    pieces_read text j left (suc i) (area + h.columns * h.rows) h.next (suc (line + h.rows)) b'.value first.line.areas b'.gives in
    let g : ◌≡◌ {A = Outcome Pieces} (given (with_piece h b'.value)) (given r) = b'.goes in
    let z : with_piece h b'.value ≡ r = cc in
    rw (← z) (piece_in_front j left area h b'.value first later)

-- ── the job ──

-- the sheet of a job line that is given
job_line_read : (text : List ℕ) (j : JobLine) → job_line text ≡ given j → sheet_in_range j.size ≡ true
unfolding job_line sheet_in_range
job_line_read text j e =
    let f = given_formed 1 (job_versions text) _ j e in
    let k : JobLine = f.value in
    let u : Unless (job_line_causes k) k j = given_unless (job_line_causes k) k j f.goes in
    rw (← u.same)
    (and_both (not-false (numbers_in_range k.size) u.none.0)
    (le-leb (k.size.rows * k.size.columns) area_bound (ltb-false area_bound (k.size.rows * k.size.columns) u.none.1.0)))

-- what reading a job gives passes the check of a lent job
pub job_read_well : (text : List ℕ) (tableLength pixelsLength : ℕ) (k : Lent) → read_job text tableLength pixelsLength ≡ given k
    → lent_well k ≡ true
unfolding read_job
job_read_well text tableLength pixelsLength k e =
    let b = given_before (job_line text) _ k e in
    let j : JobLine = b.value in
    let b' = given_before (pieces_at text j j.size.count 0 0 j.next 2) _ k b.goes in
    let r : Pieces = b'.value in
    let u : Unless (buffer_causes tableLength pixelsLength (as_lent j r)) (as_lent j r) k =
    given_unless (buffer_causes tableLength pixelsLength (as_lent j r)) (as_lent j r) k b'.goes in
    let w : PiecesWell j j.size.count 0 r = pieces_read text j j.size.count 0 0 j.next 2 r (omega arith) b'.gives in
    rw (← u.same)
    (well (as_lent j r)
    (record {
      sheet = job_line_read text j b.gives;
      entries = let s = w.entries in omega arith;
      ranges = w.ranges;
      fits = w.fits;
      areas = let s = w.areas in omega arith;
      store = let s = w.store.size in omega arith;
      bits = λ i l. bits_at r.pixels w.store.bits i;
      tight_boxes = w.tight_boxes;
    }))

-- a job that reading gives has n entries and just its boxes' bytes, and the buffers have room for them
pub record JustRead (tableLength pixelsLength : ℕ) (k : Lent) : Type 0 where
  pub entries : length k.table ≡ k.size.count
  pub bytes : length k.pixels ≡ pixel_start k.table k.size.count
  pub entries_room : k.size.count ≤ tableLength
  pub bytes_room : length k.pixels ≤ pixelsLength

-- it is so
pub job_read_just : (text : List ℕ) (tableLength pixelsLength : ℕ) (k : Lent) → read_job text tableLength pixelsLength ≡ given k
    → JustRead tableLength pixelsLength k
unfolding read_job
job_read_just text tableLength pixelsLength k e =
    let b = given_before (job_line text) _ k e in
    let j : JobLine = b.value in
    let b' = given_before (pieces_at text j j.size.count 0 0 j.next 2) _ k b.goes in
    let r : Pieces = b'.value in
    let u : Unless (buffer_causes tableLength pixelsLength (as_lent j r)) (as_lent j r) k =
    given_unless (buffer_causes tableLength pixelsLength (as_lent j r)) (as_lent j r) k b'.goes in
    let w : PiecesWell j j.size.count 0 r = pieces_read text j j.size.count 0 0 j.next 2 r (omega arith) b'.gives in
    let room = or_neither (ltb tableLength j.size.count) (ltb pixelsLength (length r.pixels)) u.none.0 in
    rw (← u.same)
    (record {
      entries = w.entries;
      bytes = w.store.size;
      entries_room = ltb-false tableLength j.size.count room.0;
      bytes_room = ltb-false pixelsLength (length r.pixels) room.1;
    })
