-- Document 01, 'When a call says no', number 8: a lent job passes the check only if it is one that reading gives. Its text, written
-- line by line in a version that can say it, is read back as the job with just the entries and pixel bytes that it needs. Assumes nothing.
use Rattle.list_laws.proofs.Kit.{◌∙◌, ◌≡◌, ap, ap₂, refl, sym, Bool, ◌&&◌, ◌||◌, false, not, true, ⊎_elim, List, [], ◌++◌, ◌∷◌, append_assoc, map}
use Rattle.list_laws.proofs.Kit.{◌*◌, ◌+◌, ◌-◌, ◌<◌}
use Rattle.list_laws.proofs.Kit.{◌≤◌, suc, zero, ℕ, add-zero, mul_comm, suc-mul, zero-add, zero-mul, arith, eqb, leb, get_or, length, take, length-take-le}
use Rattle.list_laws.proofs.Kit.{eq-eqb, le-ltb}
use Rattle.model.specs.Piece.{tight, side_bound}
use Rattle.model.specs.Refusal.{given, Cause, unless}
use Rattle.model.specs.Lent.{Lent, row_bound, column_bound, piece_bound, turns_bound, lock_bound, area_bound, numbers_in_range, sides_in_range, entry_columns, entry_rows}
use Rattle.model.specs.Lent.{entry_turns, entry_lock, gap_bound, pixel_start, entry_in_range, lent_shape, sheet_in_range, lent_well}
use Rattle.model.specs.Text.{Reading, wrong, got, onward, stands_at, fields_at, after, line_end, three_fields, four_fields, five_fields, line_at, fields_text, line_text}
use Rattle.model.specs.Text.{or_else, formed, and_then}
use Rattle.model.specs.JobText.{job_word, gap_word, lock_word, job_versions, as_job_line, piece_word, piece_ends, row_word, JobLine, job_line_causes, job_line, PieceLine}
use Rattle.model.specs.JobText.{as_piece_line, piece_line_causes, piece_line, mark_at, marks_at, row_at}
use Rattle.model.specs.JobText.{rows_at, box_shape, PieceText, as_piece_text, piece_at, no_pieces, pieces_at, read_job}
use Rattle.list_laws.proofs.Numbers.{in_rows_lem}
use Rattle.list_laws.proofs.Tests.{and_left, and_right, and_both}
use Rattle.text_laws.proofs.Ahead.{Ahead, ahead_start, ahead_byte, ahead_next, ahead_word, after_ahead, after_other, ahead_end}
use Rattle.text_laws.proofs.Fields.{FieldReads, FieldGives, Writable, line_ahead}
use Rattle.text_laws.specs.Outcomes.{NoCause}
use Rattle.text_laws.proofs.Outcomes.{unless_given}
use Rattle.job_laws.proofs.Starts.{start_grows, start_end}
use Rattle.text_laws.proofs.Store.{tight_agree}
use Rattle.job_laws.proofs.Checked.{Facts, facts}
use Rattle.text_laws.proofs.JobRead.{AllBits}
use Rattle.text_laws.specs.JobWriting.{bytes_part, mark, row_text, rows_text, entry_fields, piece_text, pieces_text, plain_line, gap_line, lock_line, SaysSize}
use Rattle.text_laws.specs.JobWriting.{NoLock, job_text_behind, entries_from, exact_job}
use Rattle.text_laws.proofs.JobWriting.{part_length, part_at, part_append, part_front, pixels_from}

-- ── rows ──

-- a mark that lies ahead
mark_ahead : {text : List ℕ} {p : ℕ} (b : ℕ) (rest : List ℕ) → b ≤ 1 → Ahead text p (mark b ∷ rest) → mark_at text p ≡ got b (suc p)
unfolding mark_at
mark_ahead zero rest h a = rw (ahead_byte a, mark_at) (rw (ahead_byte a))
mark_ahead (suc zero) rest h a = rw (ahead_byte a, mark_at)
mark_ahead (suc (suc b)) rest h a = absurd (omega arith)

-- marks that lie ahead
marks_ahead : {text : List ℕ} {p : ℕ} (bs rest : List ℕ) → AllBits bs → Ahead text p (map mark bs ++ rest)
    → FieldReads (marks_at text (length bs) p) bs text rest
unfolding marks_at
marks_ahead {text} {p} [] rest h a = record { next = p; reads = refl; ahead = a }
marks_ahead {text} {p} (b ∷ bs) rest h a =
    let m : mark_at text p ≡ got b (suc p) = mark_ahead b (map mark bs ++ rest) h.0 a in
    let r : FieldReads (marks_at text (length bs) (suc p)) bs text rest = marks_ahead bs rest h.1 (ahead_next a) in
    record { next = r.next; reads = rw (m, r.reads, onward); ahead = r.ahead }

-- a row line that lies ahead
row_ahead : {text : List ℕ} {p : ℕ} (bs rest : List ℕ) → AllBits bs → Ahead text p (row_text bs ++ rest)
    → FieldReads (row_at text (length bs) p) bs text rest
unfolding row_at
row_ahead {text} {p} bs rest h a =
    let a' : Ahead text p (row_word ++ (map mark bs ++ (line_end ∷ rest))) = simp append_assoc at a in
    let r : FieldReads (marks_at text (length bs) (p + length row_word)) bs text (line_end ∷ rest) =
    marks_ahead bs (line_end ∷ rest) h (ahead_word row_word a') in
    let ending : List ℕ → ℕ → Reading (List ℕ) = λ ms q. after (line_end ∷ []) text q (λ n. got ms n) in
    record {
      next = r.next + 1;
      reads =
          after_ahead row_word (map mark bs ++ (line_end ∷ rest)) (λ q. onward (marks_at text (length bs) q) ending) a'
          ∙ rw (r.reads, onward) (after_ahead (line_end ∷ []) rest (λ n. got bs n) r.ahead);
      ahead = ahead_word (line_end ∷ []) r.ahead;
    }

-- bytes of a part of the store
part_bits : (ks : List ℕ) (s n : ℕ) → ((i : ℕ) → i < s + n → get_or ks i 0 ≤ 1) → AllBits (bytes_part ks s n)
part_bits ks s zero h = tt
part_bits ks s (suc n) h = (h s (omega arith), part_bits ks (suc s) n (λ i l. h i (omega arith)))

-- row lines that lie ahead
rows_ahead : {text : List ℕ} {p : ℕ} (pixels : List ℕ) (l s left line : ℕ) (rest : List ℕ)
    → ((i : ℕ) → i < s + left * l → get_or pixels i 0 ≤ 1) → Ahead text p (rows_text pixels l s left ++ rest)
    → FieldGives (rows_at text l left p line) (λ n. record { pixels = bytes_part pixels s (left * l); next = n }) text rest
unfolding rows_at rows_text
rows_ahead {text = text} {p = p} pixels l s zero line rest h a =
    record { next = p; gives = rw zero-mul; ahead = a }
rows_ahead {text = text} {p = p} pixels l s (suc left) line rest h a =
    let a' : Ahead text p (row_text (bytes_part pixels s l) ++ (rows_text pixels l (s + l) left ++ rest)) =
    rw (append_assoc (row_text (bytes_part pixels s l)) (rows_text pixels l (s + l) left) rest) at a in
    let size : suc left * l ≡ l + left * l = omega (arith, suc-mul left l) in
    let f : FieldReads (row_at text (length (bytes_part pixels s l)) p) (bytes_part pixels s l) text (rows_text pixels l (s + l) left ++ rest) =
    row_ahead (bytes_part pixels s l) (rows_text pixels l (s + l) left ++ rest) (part_bits pixels s l (λ i b. h i (omega arith))) a' in
    let g : FieldGives (rows_at text l left f.next (suc line)) (λ n. record { pixels = bytes_part pixels (s + l) (left * l); next = n }) text rest =
    rows_ahead {p = f.next} pixels l (s + l) left (suc line) rest (λ i b. h i (omega arith)) f.ahead in
    let reads : row_at text l p ≡ got (bytes_part pixels s l) f.next = rw part_length at f.reads in
    let whole : bytes_part pixels s (suc left * l) ≡ bytes_part pixels s l ++ bytes_part pixels (s + l) (left * l) =
    ap (λ (n : ℕ). bytes_part pixels s n) size ∙ part_append pixels s l (left * l) in
    record { next = g.next; gives = rw (reads, g.gives, whole, formed, and_then); ahead = g.ahead }

-- ── pieces ──

-- what the job line says of the sheet and whether piece lines have locks, with the position after it
abbrev sheet_line : Bool → Lent → ℕ → JobLine
sheet_line locks k next = record { size = k.size; locks = locks; next = next }

-- what the line of piece i says
abbrev piece_numbers : Lent → ℕ → ℕ → PieceLine
piece_numbers k i next =
    record {
      number = i;
      columns = entry_columns k.table i;
      rows = entry_rows k.table i;
      turns = entry_turns k.table i;
      lock = entry_lock k.table i;
      next = next;
    }

-- the pixel bytes of piece i
abbrev piece_pixels : Lent → ℕ → List ℕ
piece_pixels k i = bytes_part k.pixels (pixel_start k.table i) (entry_rows k.table i * entry_columns k.table i)

-- what the lines of piece i say
abbrev piece_content : Lent → ℕ → ℕ → PieceText
piece_content k i next = as_piece_text (piece_numbers k i next) (record { pixels = piece_pixels k i; next = next })

-- a piece line that lies ahead: the numbers that are read say the piece's
record PieceAhead (locks : Bool) (k : Lent) (i : ℕ) (text : List ℕ) (p : ℕ) (rest : List ℕ) : Type 0 where
  numbers : List ℕ
  next : ℕ
  reads : line_at piece_word (piece_ends locks) text p ≡ got numbers next
  says : as_piece_line numbers next ≡ piece_numbers k i next
  ahead : Ahead text next rest

module _ (k : Lent) (facts : Facts k) (i : ℕ) (below : i < k.size.count) where
  -- its bytes are 0 or 1
  box_bits : (m : ℕ) → m < pixel_start k.table i + entry_rows k.table i * entry_columns k.table i → get_or k.pixels m 0 ≤ 1
  box_bits m l =
      facts.bits m
      (let e = start_end k.table i k.size.count below in let c = mul_comm (entry_rows k.table i) (entry_columns k.table i) in omega arith)

  -- its box is tight
  box_tight : tight (box_shape (entry_columns k.table i) (entry_rows k.table i) (piece_pixels k i)) ≡ true
  box_tight =
      let l : ℕ = entry_columns k.table i in
      let w : ℕ = entry_rows k.table i in
      tight_agree (box_shape l w (piece_pixels k i)) (lent_shape k i)
      (record {
        columns = refl;
        rows = refl;
        wide = facts.columns_some i below;
        high = facts.rows_some i below;
        has = λ x y hx hy. ap (λ (b : ℕ). eqb b 1) (part_at k.pixels (pixel_start k.table i) (w * l) (y * l + x) (in_rows_lem hx hy));
      })
      ∙ facts.tight_boxes i below

  -- the numbers of the piece line that lies ahead; without a lock there the piece is free
  piece_numbers_ahead : {text : List ℕ} {p : ℕ} (locks : Bool) (rest : List ℕ) → k.size.count ≤ piece_bound
      → (locks ≡ false → entry_lock k.table i ≡ 0)
      → Ahead text p (line_text piece_word (piece_ends locks) (i ∷ entry_fields k.table i) ++ rest) → PieceAhead locks k i text p rest
  unfolding fields_text
  piece_numbers_ahead {text} {p} true rest hn free a =
      let ks : List ℕ = i ∷ entry_fields k.table i in
      let sl : entry_columns k.table i ≤ side_bound = facts.columns_small i below in
      let sw : entry_rows k.table i ≤ side_bound = facts.rows_small i below in
      let so : entry_turns k.table i ≤ turns_bound = facts.turns_few i below in
      let sk : entry_lock k.table i ≤ lock_bound = facts.lock_small i below in
      let able : Writable five_fields ks =
      (refl, omega arith, (refl, omega arith, (refl, omega arith, (refl, omega arith, (refl, omega arith, tt))))) in
      let r : FieldReads (line_at piece_word five_fields text p) ks text rest = line_ahead piece_word five_fields ks rest able a in
      record { numbers = ks; next = r.next; reads = r.reads; says = refl; ahead = r.ahead }
  piece_numbers_ahead {text} {p} false rest hn free a =
      let l : ℕ = entry_columns k.table i in
      let w : ℕ = entry_rows k.table i in
      let o : ℕ = entry_turns k.table i in
      let ks : List ℕ = i ∷ l ∷ w ∷ o ∷ [] in
      let sl : entry_columns k.table i ≤ side_bound = facts.columns_small i below in
      let sw : entry_rows k.table i ≤ side_bound = facts.rows_small i below in
      let so : entry_turns k.table i ≤ turns_bound = facts.turns_few i below in
      let able : Writable four_fields ks = (refl, omega arith, (refl, omega arith, (refl, omega arith, (refl, omega arith, tt)))) in
      let r : FieldReads (line_at piece_word four_fields text p) ks text rest = line_ahead piece_word four_fields ks rest able a in
      record {
        numbers = ks;
        next = r.next;
        reads = r.reads;
        says = ap (λ (lock : ℕ). as_piece_line (i ∷ l ∷ w ∷ o ∷ lock ∷ []) r.next) (sym (free refl));
        ahead = r.ahead;
      }

  -- the piece line that lies ahead
  piece_line_ahead : {text : List ℕ} {p : ℕ} (locks : Bool) (m line : ℕ) (rest : List ℕ) → k.size.count ≤ piece_bound
      → (locks ≡ false → entry_lock k.table i ≡ 0)
      → Ahead text p (line_text piece_word (piece_ends locks) (i ∷ entry_fields k.table i) ++ rest)
      → FieldGives (piece_line text (sheet_line locks k m) i (pixel_start k.table i) p line) (piece_numbers k i) text rest
  unfolding piece_line entry_in_range
  piece_line_ahead {text} {p} locks m line rest hn free a =
      let l : ℕ = entry_columns k.table i in
      let w : ℕ = entry_rows k.table i in
      let sides : Bool = sides_in_range l w (entry_turns k.table i) in
      let small : Bool = leb (entry_lock k.table i) lock_bound in
      let ranges : (sides && small) ≡ true = facts.ranges i below in
      let r : PieceAhead locks k i text p rest = piece_numbers_ahead locks rest hn free a in
      let causes : PieceLine → List Cause = piece_line_causes line (sheet_line locks k m) i (pixel_start k.table i) in
      let none : NoCause (causes (piece_numbers k i r.next)) = (
        ap not (and_both (and_both (eq-eqb i i refl) (and_left sides small ranges)) (and_right sides small ranges)),
        (
          ap₂ (λ (x y : Bool). x || y) (le-ltb k.size.columns l (facts.columns_fit i below)) (le-ltb k.size.rows w (facts.rows_fit i below)),
          (
            le-ltb area_bound (pixel_start k.table i + l * w) (let e = start_end k.table i k.size.count below in let t = facts.areas in omega arith),
            tt,
          ),
        ),
      ) in
      record {
        next = r.next;
        gives =
            rw (r.reads, formed)
            (ap (λ (h : PieceLine). unless (causes h) h) r.says
            ∙ unless_given (causes (piece_numbers k i r.next)) (piece_numbers k i r.next) none);
        ahead = r.ahead;
      }

  -- the lines of the piece that lie ahead
  piece_ahead : {text : List ℕ} {p : ℕ} (locks : Bool) (m line : ℕ) (rest : List ℕ) → k.size.count ≤ piece_bound
      → (locks ≡ false → entry_lock k.table i ≡ 0) → Ahead text p (piece_text locks k i ++ rest)
      → FieldGives (piece_at text (sheet_line locks k m) i (pixel_start k.table i) p line) (piece_content k i) text rest
  unfolding piece_at
  piece_ahead {text} {p} locks m line rest hn free a =
      let l : ℕ = entry_columns k.table i in
      let w : ℕ = entry_rows k.table i in
      let s : ℕ = pixel_start k.table i in
      let rows : List ℕ = rows_text k.pixels l s w in
      let head : List ℕ = line_text piece_word (piece_ends locks) (i ∷ entry_fields k.table i) in
      let a' : Ahead text p (head ++ (rows ++ rest)) = rw (append_assoc head rows rest) at a in
      let g : FieldGives (piece_line text (sheet_line locks k m) i s p line) (piece_numbers k i) text (rows ++ rest) =
      piece_line_ahead locks m line (rows ++ rest) hn free a' in
      let r : FieldGives (rows_at text l w g.next (suc line)) (λ n. record { pixels = piece_pixels k i; next = n }) text rest =
      rows_ahead k.pixels l s w (suc line) rest box_bits g.ahead in
      record {
        next = r.next;
        gives = rw (g.gives, r.gives, and_then) (unless_given _ (piece_content k i r.next) (ap not box_tight, tt));
        ahead = r.ahead;
      }

-- the lines of pieces that lie ahead, with nothing after them
pieces_ahead : {text : List ℕ} {p : ℕ} (k : Lent) → Facts k → k.size.count ≤ piece_bound → (locks : Bool) → (locks ≡ false → NoLock k)
    → (m left i line : ℕ) → i + left ≡ k.size.count
    → Ahead text p (pieces_text locks k i left)
    → pieces_at text (sheet_line locks k m) left i (pixel_start k.table i) p line
    ≡ given (record { table = entries_from k.table i left; pixels = pixels_from k i left })
unfolding pieces_at pieces_text pixel_start
pieces_ahead {text = text} {p = p} k facts hn locks free m zero i line e a = unless_given _ no_pieces (ap not (eq-eqb p (length text) (ahead_end a)), tt)
pieces_ahead {text = text} {p = p} k facts hn locks free m (suc left) i line e a =
    let below : i < k.size.count = omega arith in
    let rest : List ℕ = pieces_text locks k (suc i) left in
    let g : FieldGives (piece_at text (sheet_line locks k m) i (pixel_start k.table i) p line) (piece_content k i) text rest =
    piece_ahead k facts i below locks m line rest hn (λ none. free none i below) a in
    let later = pieces_ahead {p = g.next} k facts hn locks free m left (suc i) (suc (line + entry_rows k.table i)) (omega arith) g.ahead in
    rw (g.gives, later, and_then)

-- the pixel bytes of pieces one after the other are a part of the store
pixels_from_lem : (k : Lent) (i left size : ℕ) → pixel_start k.table i + size ≡ pixel_start k.table (i + left)
    → pixels_from k i left ≡ bytes_part k.pixels (pixel_start k.table i) size
unfolding pixel_start
pixels_from_lem k i zero size e =
    let z : size ≡ 0 = let e' = rw add-zero at e in omega arith in
    rw z
pixels_from_lem k i (suc left) size e =
    let area : ℕ = entry_rows k.table i * entry_columns k.table i in
    let c = mul_comm (entry_rows k.table i) (entry_columns k.table i) in
    let s : i + suc left ≡ suc i + left = omega arith in
    let e' : pixel_start k.table i + size ≡ pixel_start k.table (suc i + left) = rw s at e in
    let grows : pixel_start k.table (suc i) ≤ pixel_start k.table (suc i + left) = start_grows k.table (suc i) left in
    let split : area + (size - area) ≡ size = omega arith in
    let here : pixel_start k.table (suc i) ≡ pixel_start k.table i + area = omega arith in
    let later : pixels_from k (suc i) left ≡ bytes_part k.pixels (pixel_start k.table (suc i)) (size - area) =
    pixels_from_lem k (suc i) left (size - area) (omega arith) in
    ap (λ (ks : List ℕ). bytes_part k.pixels (pixel_start k.table i) area ++ ks) (later ∙ ap (λ (n : ℕ). bytes_part k.pixels n (size - area)) here)
    ∙ sym (part_append k.pixels (pixel_start k.table i) area (size - area))
    ∙ ap (λ (n : ℕ). bytes_part k.pixels (pixel_start k.table i) n) split

-- the pixel bytes of all pieces are the front of the store
exact_pixels : (k : Lent) → pixel_start k.table k.size.count ≤ length k.pixels
    → pixels_from k 0 k.size.count ≡ take (pixel_start k.table k.size.count) k.pixels
unfolding pixel_start
exact_pixels k h =
    let total : ℕ = pixel_start k.table k.size.count in
    pixels_from_lem k 0 k.size.count total (zero-add total ∙ ap (pixel_start k.table) (sym (zero-add k.size.count))) ∙ part_front k.pixels total h

-- ── the job ──

-- a job line that lies ahead is read, and says the job's numbers
record SizeAhead (locks : Bool) (k : Lent) (text rest : List ℕ) : Type 0 where
  next : ℕ
  reads : job_versions text ≡ got (sheet_line locks k next) next
  ahead : Ahead text next rest

-- W, L, n and g
abbrev size_numbers : Lent → List ℕ
size_numbers k = k.size.rows ∷ k.size.columns ∷ k.size.count ∷ k.size.gap ∷ []

module _ {text : List ℕ} (k : Lent) (facts : Facts k) (rest : List ℕ) where
  -- a line of version 1; without a fourth number the gap is 0
  plain_line_ahead : k.size.gap ≡ 0 → Ahead text 0 (plain_line k.size ++ rest) → SizeAhead false k text rest
  plain_line_ahead none a =
      let ks : List ℕ = k.size.rows ∷ k.size.columns ∷ k.size.count ∷ [] in
      let hr : k.size.rows ≤ row_bound = facts.few_rows in
      let hc : k.size.columns ≤ column_bound = facts.few_columns in
      let hn : k.size.count ≤ piece_bound = facts.few_pieces in
      let able : Writable three_fields ks = (refl, omega arith, (refl, omega arith, (refl, omega arith, tt))) in
      let r : FieldReads (line_at job_word three_fields text 0) ks text rest = line_ahead job_word three_fields ks rest able a in
      let said : ℕ → Reading JobLine =
      λ gap. got (as_job_line false (k.size.rows ∷ k.size.columns ∷ k.size.count ∷ gap ∷ []) r.next) r.next in
      record { next = r.next; reads = rw (r.reads, onward, or_else) (ap said (sym none)); ahead = r.ahead }

  -- a line of a word and all four numbers
  numbers_ahead : (word : List ℕ) → Ahead text 0 (line_text word four_fields (size_numbers k) ++ rest)
      → FieldReads (line_at word four_fields text 0) (size_numbers k) text rest
  numbers_ahead word a =
      let hr : k.size.rows ≤ row_bound = facts.few_rows in
      let hc : k.size.columns ≤ column_bound = facts.few_columns in
      let hn : k.size.count ≤ piece_bound = facts.few_pieces in
      let hg : k.size.gap ≤ gap_bound = facts.small_gap in
      let able : Writable four_fields (size_numbers k) = (refl, omega arith, (refl, omega arith, (refl, omega arith, (refl, omega arith, tt)))) in
      line_ahead word four_fields (size_numbers k) rest able a

  -- a line of version 2, whose word is not that of version 1
  gap_line_ahead : Ahead text 0 (gap_line k.size ++ rest) → SizeAhead false k text rest
  unfolding stands_at
  gap_line_ahead a =
      let r : FieldReads (line_at gap_word four_fields text 0) (size_numbers k) text rest = numbers_ahead gap_word a in
      let first : line_at job_word three_fields text 0 ≡ wrong = after_other job_word (fields_at three_fields text) a refl in
      record { next = r.next; reads = rw (first, r.reads, onward, or_else); ahead = r.ahead }

  -- a line of version 3, whose word is that of neither
  lock_line_ahead : Ahead text 0 (lock_line k.size ++ rest) → SizeAhead true k text rest
  unfolding stands_at
  lock_line_ahead a =
      let r : FieldReads (line_at lock_word four_fields text 0) (size_numbers k) text rest = numbers_ahead lock_word a in
      let first : line_at job_word three_fields text 0 ≡ wrong = after_other job_word (fields_at three_fields text) a refl in
      let second : line_at gap_word four_fields text 0 ≡ wrong = after_other gap_word (fields_at four_fields text) a refl in
      record { next = r.next; reads = rw (first, second, r.reads, onward, or_else); ahead = r.ahead }

  -- a job line of any version
  version_ahead : (locks : Bool) (line : List ℕ) → SaysSize k.size locks line → Ahead text 0 (line ++ rest) → SizeAhead locks k text rest
  version_ahead true line says a = lock_line_ahead (rw says at a)
  version_ahead false line says a =
      ⊎_elim (λ e. gap_line_ahead (rw e at a)) (λ e. plain_line_ahead e.1 (rw e.0 at a)) says

  -- it is given
  job_line_ahead : (locks : Bool) (line : List ℕ) → SaysSize k.size locks line → Ahead text 0 (line ++ rest)
      → FieldGives (job_line text) (sheet_line locks k) text rest
  unfolding job_line sheet_in_range
  job_line_ahead locks line says a =
      let r : SizeAhead locks k text rest = version_ahead locks line says a in
      record {
        next = r.next;
        gives =
            rw (r.reads, formed)
            (unless_given (job_line_causes (sheet_line locks k r.next)) (sheet_line locks k r.next) (
              ap not (and_left (numbers_in_range k.size) (leb (k.size.rows * k.size.columns) area_bound) facts.sheet),
              (le-ltb area_bound (k.size.rows * k.size.columns) facts.area, tt),
            ));
        ahead = r.ahead;
      }

-- a lent job that passes the check is one that reading gives: its text, behind a job line of a version that can say it, is read, with
-- buffers that suffice, as just that job
pub job_read_back : (k : Lent) → lent_well k ≡ true → (locks : Bool) (line : List ℕ) → SaysSize k.size locks line → (locks ≡ false → NoLock k)
    → (tableLength pixelsLength : ℕ) → k.size.count ≤ tableLength → pixel_start k.table k.size.count ≤ pixelsLength
    → read_job (job_text_behind locks line k) tableLength pixelsLength ≡ given (exact_job k)
unfolding read_job job_text_behind pixel_start
job_read_back k well locks line says free tableLength pixelsLength ht hp =
    let f : Facts k = facts k well in
    let text : List ℕ = job_text_behind locks line k in
    let rest : List ℕ = pieces_text locks k 0 k.size.count in
    let total : ℕ = pixel_start k.table k.size.count in
    let hn : k.size.count ≤ piece_bound = f.few_pieces in
    let g : FieldGives (job_line text) (sheet_line locks k) text rest = job_line_ahead k f rest locks line says (ahead_start text) in
    let pixels : pixels_from k 0 k.size.count ≡ take total k.pixels = exact_pixels k f.store in
    let r : pieces_at text (sheet_line locks k g.next) k.size.count 0 0 g.next 2
    ≡ given (record { table = entries_from k.table 0 k.size.count; pixels = take total k.pixels }) =
    rw pixels at (pieces_ahead k f hn locks free g.next k.size.count 0 2 (zero-add k.size.count) g.ahead) in
    let size : length (take total k.pixels) ≡ total = length-take-le total k.pixels f.store in
    rw (g.gives, r, and_then, read_job)
    (unless_given _ (exact_job k)
    (ap₂ (λ (x y : Bool). x || y) (le-ltb tableLength k.size.count ht) (le-ltb pixelsLength (length (take total k.pixels)) (omega arith)), tt))
