-- A piece and all pieces: its box in the text, and storing piece after piece. Assumes nothing.
use Rattle.list_laws.proofs.Kit.{◌∙◌, ◌≡◌, ap, refl, subst, sym, Bool, ◌||◌, false, not, true, List, [], ◌++◌, ◌∷◌, ◌*◌, ◌+◌, ◌<◌, suc, zero, ℕ, add-zero}
use Rattle.list_laws.proofs.Kit.{mul_comm, arith, eqb, ltb, length, length-append, set, sets, eq-eqb, ne_eqb}
use Rattle.model.specs.Refusal.{Outcome, refused, given, cause, unless, wrong_form, loose_box, wrong_length}
use Rattle.model.specs.Lent.{Lent}
use Rattle.model.specs.Piece.{tight}
use Rattle.model.specs.Text.{and_then, cause_in}
use Rattle.model.specs.JobText.{JobLine, PieceLine, pixel_mark, Rows, rows_at, box_shape, PieceText, rows_causes, as_piece_text, piece_line, piece_at, Pieces}
use Rattle.model.specs.JobText.{with_piece, no_pieces, pieces_at, as_lent, buffer_causes, job_line, read_job}
use Rattle.model.specs.declared.JobSize.{JobSize}
use Rattle.model.specs.declared.Refusal.{Refusal}
use Rattle.std.specs.Prelude.{Result, Ok, Err}
use Rattle.list_laws.proofs.Stores.{sets_append}
use Rattle.text_laws.specs.Outcomes.{Unless}
use Rattle.text_laws.proofs.Outcomes.{refused_given, given_before, given_unless}
use Rattle.text_laws.proofs.Store.{tight_agree}
use Rattle.job_check.specs.Boxes.{box_in}
use Rattle.job_lines.specs.Lines.{refusal_at, head_of, job_line_of, job_answer, piece_of, piece_line_of, piece_answer}
use Rattle.job_rows.specs.Stores.{rows_answer, RowsStored}
use Rattle.job_calls.specs.Reading.{box_at, place_answer, BoxStored, Entered, PieceStored, pieces_answer, PiecesStored, roomed, Leaves}
use Rattle.job_lines.specs.declared.JobHead.{JobHead}
use Rattle.job_lines.specs.declared.PieceHead.{PieceHead}
use Rattle.job_calls.specs.declared.reader.Place.{Place}
use Rattle.job_rows.proofs.Marks.{rows_facts}

-- ── the box of a piece ──

-- a box is tight in the store exactly when it is in the text
pub box_same : (text : List ℕ) (l w p line : ℕ) (r : Rows) → 0 < l → 0 < w → rows_at text l w p line ≡ given r
    → tight (box_shape l w r.pixels) ≡ tight (box_in pixel_mark text (p + 4) (l + 5) l w)
box_same text l w p line r hl hw e =
    tight_agree (box_shape l w r.pixels) (box_in pixel_mark text (p + 4) (l + 5) l w)
    (record { columns = refl; rows = refl; wide = hl; high = hw; has = (rows_facts text l w p line r e).pixel })

-- what an answer says of row lines
pub record Told (at : ℕ) (before last : List ℕ) (next : ℕ) (x : Outcome Rows) : Type 0 where
  pub lines : Rows
  pub gives : x ≡ given lines
  pub after : lines.next ≡ next
  pub stores : last ≡ sets before at lines.pixels

pub rows_told : (at : ℕ) (before last : List ℕ) (next : ℕ) (x : Outcome Rows) → Ok next ≡ rows_answer x → RowsStored at before last x
    → Told at before last next x
rows_told at before last next (refused s) e k = cc
rows_told at before last next (given r) e k = let z : next ≡ r.next = cc in record { lines = r; gives = refl; after = sym z; stores = k }

module _ (text : List ℕ) (line : ℕ) (h : PieceLine) where
  -- the box is loose
  pub box_loose : (r : Rows) → rows_at text h.columns h.rows h.next (suc line) ≡ given r → tight (box_shape h.columns h.rows r.pixels) ≡ false
      → box_at text line h ≡ refused (refusal_at loose_box (line + h.rows))
  unfolding unless
  box_loose r e f = ap (λ (x : Outcome Rows). and_then x (λ r. unless (rows_causes line h r) (as_piece_text h r))) e ∙ simp (f, unless)

  -- the box is tight
  pub box_given : (r : Rows) → rows_at text h.columns h.rows h.next (suc line) ≡ given r → tight (box_shape h.columns h.rows r.pixels) ≡ true
      → box_at text line h ≡ given (as_piece_text h r)
  unfolding unless
  box_given r e f = ap (λ (x : Outcome Rows). and_then x (λ r. unless (rows_causes line h r) (as_piece_text h r))) e ∙ simp (f, unless)

-- ── a piece ──

-- what an answer says of a piece line
pub line_denied : (s : Refusal) (x : Outcome PieceLine) → Err s ≡ piece_answer x → x ≡ refused s
line_denied s (refused t) e = let z : s ≡ t = cc in ap refused (sym z)
line_denied s (given h) e = cc

pub line_told : (h : PieceHead) (x : Outcome PieceLine) → Ok h ≡ piece_answer x → x ≡ given (piece_line_of h)
line_told h (refused t) e = cc
line_told h (given k) e = let z : h ≡ piece_of k = cc in ap (λ (g : PieceHead). given (piece_line_of g)) (sym z)

module _ (text : List ℕ) (j : JobLine) (i area p line : ℕ) where
  -- its line is refused
  pub piece_denied : (s : Refusal) → piece_line text j i area p line ≡ refused s → piece_at text j i area p line ≡ refused s
  unfolding piece_at
  piece_denied s e = ap (λ (x : Outcome PieceLine). and_then x (box_at text line)) e

  -- its line is read
  pub piece_boxed : (h : PieceLine) → piece_line text j i area p line ≡ given h → piece_at text j i area p line ≡ box_at text line h
  unfolding piece_at
  piece_boxed h e = ap (λ (x : Outcome PieceLine). and_then x (box_at text line)) e

  -- a piece that is read has one byte a box pixel
  pub piece_size : (t : PieceText) → piece_at text j i area p line ≡ given t → length t.pixels ≡ t.columns * t.rows
  unfolding piece_at
  piece_size t e =
      let b = given_before (piece_line text j i area p line) (box_at text line) t e in
      let h : PieceLine = b.value in
      let r = given_before (rows_at text h.columns h.rows h.next (suc line)) _ t b.goes in
      let u : Unless (rows_causes line h r.value) (as_piece_text h r.value) t =
      given_unless (rows_causes line h r.value) (as_piece_text h r.value) t r.goes in
      let s = (rows_facts text h.columns h.rows h.next (suc line) r.value r.gives).size in
      rw (← u.same) (s ∙ mul_comm h.rows h.columns)

-- a box that is read is that of its line
box_line : (text : List ℕ) (line : ℕ) (h : PieceLine) (t : PieceText) → box_at text line h ≡ given t
    → (h.columns ∷ h.rows ∷ h.turns ∷ h.lock ∷ []) ≡ (t.columns ∷ t.rows ∷ t.turns ∷ t.lock ∷ [])
box_line text line h t e =
    let r = given_before (rows_at text h.columns h.rows h.next (suc line)) _ t e in
    let u : Unless (rows_causes line h r.value) (as_piece_text h r.value) t =
    given_unless (rows_causes line h r.value) (as_piece_text h r.value) t r.goes in
    ap (λ (k : PieceText). k.columns ∷ k.rows ∷ k.turns ∷ k.lock ∷ []) u.same

-- what stands in table and store after a piece
pub box_entered : (text : List ℕ) (line i at : ℕ) (h : PieceLine) (table lastTable : List (List ℕ)) (store lastStore : List ℕ) (x : Outcome PieceText)
    → box_at text line h ≡ x → lastTable ≡ set table i (h.columns ∷ h.rows ∷ h.turns ∷ h.lock ∷ []) → BoxStored at store lastStore x
    → PieceStored i at table lastTable store lastStore x
box_entered text line i at h table lastTable store lastStore (refused s) e k b = tt
box_entered text line i at h table lastTable store lastStore (given t) e k b =
    record { entry = k ∙ ap (set table i) (box_line text line h t e); pixels = b }

-- ── all pieces ──

-- table, store and areas after pieces
pub record Full : Type 0 where
  pub table : List (List ℕ)
  pub pixels : List ℕ
  pub area : ℕ

-- pieces stored from entry i and byte `area` on
abbrev pub full : ℕ → ℕ → List (List ℕ) → List ℕ → Pieces → Outcome Full
full i area table store x = given (record { table = sets table i x.table; pixels = sets store area x.pixels; area = area + length x.pixels })

-- a piece in front of later ones
abbrev front : PieceText → Pieces → Outcome Pieces
front t x = given (with_piece t x)

abbrev pub fill_pieces : List ℕ → JobLine → ℕ → ℕ → ℕ → ℕ → ℕ → List (List ℕ) → List ℕ → Outcome Full
fill_pieces text j left i area p line table store = and_then (pieces_at text j left i area p line) (full i area table store)

-- where reading stands after a piece
abbrev pub place_read : ℕ → ℕ → PieceText → Place
place_read area line t = record { area = area + t.columns * t.rows; next = t.next; line = line + t.rows + 1 }

-- what an answer says of a piece
pub record Placed (area line : ℕ) (at : Place) (x : Outcome PieceText) : Type 0 where
  pub piece : PieceText
  pub gives : x ≡ given piece
  pub same : at ≡ place_read area line piece

pub place_told : (area line : ℕ) (at : Place) (x : Outcome PieceText) → Ok at ≡ place_answer area line x → Placed area line at x
place_told area line at (refused s) e = cc
place_told area line at (given t) e = let z : at ≡ place_read area line t = cc in record { piece = t; gives = refl; same = z }

pub place_denied : (area line : ℕ) (s : Refusal) (x : Outcome PieceText) → Err s ≡ place_answer area line x → x ≡ refused s
place_denied area line s (refused t) e = let z : s ≡ t = cc in ap refused (sym z)
place_denied area line s (given t) e = cc

module _ (text : List ℕ) (j : JobLine) (left i area p line : ℕ) (table : List (List ℕ)) (store : List ℕ) where
  -- a piece is refused
  pub pieces_denied : (s : Refusal) → piece_at text j i area p line ≡ refused s → fill_pieces text j (suc left) i area p line table store ≡ refused s
  unfolding pieces_at
  pieces_denied s e =
      ap
      (λ (x : Outcome PieceText). and_then
      (and_then x (λ h. and_then (pieces_at text j left (suc i) (area + h.columns * h.rows) h.next (suc (line + h.rows))) (front h)))
      (full i area table store))
      e

  -- the areas of a piece and of later ones
  later : (t : PieceText) → length t.pixels ≡ t.columns * t.rows → (x : Outcome Pieces)
      → and_then (and_then x (front t)) (full i area table store)
      ≡ and_then x
      (full (suc i) (area + t.columns * t.rows) (set table i (t.columns ∷ t.rows ∷ t.turns ∷ t.lock ∷ [])) (sets store area t.pixels))
  later t s (refused r) = refl
  later t s (given x) =
      ap (λ (k : List ℕ). whole k (area + length (t.pixels ++ x.pixels))) (sets_append store area t.pixels x.pixels)
      ∙ ap (λ (n : ℕ). whole (sets (sets store area t.pixels) (area + n) x.pixels) (area + length (t.pixels ++ x.pixels))) s
      ∙ ap (λ (n : ℕ). whole (sets (sets store area t.pixels) (area + t.columns * t.rows) x.pixels) n)
      (let e = length-append t.pixels x.pixels in omega arith)
    where
      whole : List ℕ → ℕ → Outcome Full
      whole pixels n =
          given (record { table = sets (set table i (t.columns ∷ t.rows ∷ t.turns ∷ t.lock ∷ [])) (suc i) x.table; pixels = pixels; area = n })

  -- a piece is stored and the others are left
  pieces_more : (t : PieceText) → piece_at text j i area p line ≡ given t
      → fill_pieces text j (suc left) i area p line table store
      ≡ fill_pieces text j left (suc i) (area + t.columns * t.rows) t.next (suc (line + t.rows))
      (set table i (t.columns ∷ t.rows ∷ t.turns ∷ t.lock ∷ [])) (sets store area t.pixels)
  unfolding pieces_at
  pieces_more t e =
      ap
      (λ (x : Outcome PieceText). and_then
      (and_then x (λ h. and_then (pieces_at text j left (suc i) (area + h.columns * h.rows) h.next (suc (line + h.rows))) (front h)))
      (full i area table store))
      e
      ∙ later t (piece_size text j i area p line t e)
      (pieces_at text j left (suc i) (area + t.columns * t.rows) t.next (suc (line + t.rows)))

  -- the same, where a call stored the piece
  pub pieces_step : (at : Place) (lastTable : List (List ℕ)) (lastStore : List ℕ) → Ok at ≡ place_answer area line (piece_at text j i area p line)
      → PieceStored i area table lastTable store lastStore (piece_at text j i area p line)
      → fill_pieces text j (suc left) i area p line table store ≡ fill_pieces text j left (suc i) at.area at.next at.line lastTable lastStore
  pieces_step at lastTable lastStore e k =
      let o : Placed area line at (piece_at text j i area p line) = place_told area line at (piece_at text j i area p line) e in
      let t : PieceText = o.piece in
      let f : Entered i area table lastTable store lastStore t = subst (PieceStored i area table lastTable store lastStore) o.gives k in
      let l : suc (line + t.rows) ≡ line + t.rows + 1 = omega arith in
      pieces_more t o.gives
      ∙ ap (λ (n : ℕ).
      fill_pieces text j left (suc i) (area + t.columns * t.rows) t.next n (set table i (t.columns ∷ t.rows ∷ t.turns ∷ t.lock ∷ []))
      (sets store area t.pixels)) l
      ∙ ap (λ (q : Place).
      fill_pieces text j left (suc i) q.area q.next q.line (set table i (t.columns ∷ t.rows ∷ t.turns ∷ t.lock ∷ [])) (sets store area t.pixels))
      (sym o.same)
      ∙ ap (λ (b : List (List ℕ)). fill_pieces text j left (suc i) at.area at.next at.line b (sets store area t.pixels)) (sym f.entry)
      ∙ ap (λ (b : List ℕ). fill_pieces text j left (suc i) at.area at.next at.line lastTable b) (sym f.pixels)

module _ (text : List ℕ) (j : JobLine) (i area p line : ℕ) (table : List (List ℕ)) (store : List ℕ) where
  -- something follows the last piece
  pub pieces_extra : (p ≡ length text → ⊥) → fill_pieces text j 0 i area p line table store ≡ refused (refusal_at wrong_form line)
  unfolding pieces_at unless
  pieces_extra h =
      ap (λ (b : Bool). and_then (unless (cause_in line wrong_form (not b) ∷ []) no_pieces) (full i area table store)) (ne_eqb p (length text) h)

  -- nothing does
  pub pieces_end : p ≡ length text → fill_pieces text j 0 i area p line table store ≡ given (record { table = table; pixels = store; area = area })
  unfolding pieces_at unless
  pieces_end h =
      ap (λ (b : Bool). and_then (unless (cause_in line wrong_form (not b) ∷ []) no_pieces) (full i area table store)) (eq-eqb p (length text) h)
      ∙ ap (λ (n : ℕ). given (record { table = table; pixels = store; area = n })) (add-zero area)

-- what stands in table and store after all
pub pieces_given : (table lastTable : List (List ℕ)) (store lastStore : List ℕ) (area : ℕ) (x : Outcome Pieces)
    → and_then x (full 0 0 table store) ≡ given (record { table = lastTable; pixels = lastStore; area = area })
    → (Ok area ≡ pieces_answer x) × PiecesStored table lastTable store lastStore x
pieces_given table lastTable store lastStore area (refused s) e = absurd (refused_given e)
pieces_given table lastTable store lastStore area (given x) e =
    let y : ◌≡◌ {A = Full} (record { table = sets table 0 x.table; pixels = sets store 0 x.pixels; area = 0 + length x.pixels })
    (record { table = lastTable; pixels = lastStore; area = area }) = cc in
    let n : 0 + length x.pixels ≡ area = ap (λ (f : Full). f.area) y in
    let m : area ≡ length x.pixels = omega arith in
    (ap Ok m, record { entries = ap (λ (f : Full). f.table) (sym y); pixels = ap (λ (f : Full). f.pixels) (sym y) })

pub pieces_refused : (table lastTable : List (List ℕ)) (store lastStore : List ℕ) (s : Refusal) (x : Outcome Pieces)
    → and_then x (full 0 0 table store) ≡ refused s → (Err s ≡ pieces_answer x) × PiecesStored table lastTable store lastStore x
pieces_refused table lastTable store lastStore s (refused t) e = let z : t ≡ s = cc in (ap Err (sym z), tt)
pieces_refused table lastTable store lastStore s (given x) e = absurd (refused_given (sym e))

-- what an answer says of all pieces
pub record Counted (n : ℕ) (x : Outcome Pieces) : Type 0 where
  pub all : Pieces
  pub gives : x ≡ given all
  pub size : n ≡ length all.pixels

pub pieces_told : (n : ℕ) (x : Outcome Pieces) → Ok n ≡ pieces_answer x → Counted n x
pieces_told n (refused s) e = cc
pieces_told n (given x) e = let z : n ≡ length x.pixels = cc in record { all = x; gives = refl; size = z }

-- as many entries as pieces
pub pieces_count : (text : List ℕ) (j : JobLine) (left i area p line : ℕ) (x : Pieces) → pieces_at text j left i area p line ≡ given x → length x.table ≡ left
unfolding pieces_at
pieces_count text j zero i area p line x e =
    let u = given_unless (cause_in line wrong_form (not (eqb p (length text))) ∷ []) no_pieces x e in
    rw (← u.same) refl
pieces_count text j (suc left) i area p line x e =
    let b = given_before (piece_at text j i area p line) _ x e in
    let t : PieceText = b.value in
    let l = given_before (pieces_at text j left (suc i) (area + t.columns * t.rows) t.next (suc (line + t.rows))) _ x b.goes in
    let n = pieces_count text j left (suc i) (area + t.columns * t.rows) t.next (suc (line + t.rows)) l.value l.gives in
    let g : ◌≡◌ {A = Outcome Pieces} (given (with_piece t l.value)) (given x) = l.goes in
    let z : with_piece t l.value ≡ x = cc in
    rw (← z) (ap suc n)

-- ── the room ──

module _ (text : List ℕ) (j : JobLine) (tableLength pixelsLength : ℕ) where
  -- the rest of reading behind the pieces
  abbrev there : Pieces → Outcome Lent
  there x = unless (buffer_causes tableLength pixelsLength (as_lent j x)) (as_lent j x)

  -- a buffer is too short
  pub room_short : (x : Pieces) → pieces_at text j j.size.count 0 0 j.next 2 ≡ given x
      → (ltb tableLength j.size.count || ltb pixelsLength (length x.pixels)) ≡ true
      → roomed text j tableLength pixelsLength ≡ refused (refusal_at wrong_length 0)
  unfolding unless
  room_short x e b = ap (λ (y : Outcome Pieces). and_then y there) e ∙ ap (λ (t : Bool). unless (cause wrong_length t ∷ []) (as_lent j x)) b

  -- both have room
  pub room_given : (x : Pieces) → pieces_at text j j.size.count 0 0 j.next 2 ≡ given x
      → (ltb tableLength j.size.count || ltb pixelsLength (length x.pixels)) ≡ false → roomed text j tableLength pixelsLength ≡ given (as_lent j x)
  unfolding unless
  room_given x e b = ap (λ (y : Outcome Pieces). and_then y there) e ∙ ap (λ (t : Bool). unless (cause wrong_length t ∷ []) (as_lent j x)) b

-- a refusal leaves table and store
pub leaves_refused : (s : Refusal) (r : Result JobSize Refusal) (table lastTable : List (List ℕ)) (store lastStore : List ℕ) (o : Outcome Lent) → o ≡ refused s
    → r ≡ Err s → lastTable ≡ table → lastStore ≡ store → Leaves r table lastTable store lastStore o
leaves_refused s r table lastTable store lastStore (refused t) e a b c =
    let z : t ≡ s = cc in
    record { answers = a ∙ ap Err (sym z); entries = b; pixels = c }
leaves_refused s r table lastTable store lastStore (given k) e a b c = absurd (refused_given (sym e))

-- ── the job ──

-- what an answer says of the job line
pub head_denied : (s : Refusal) (x : Outcome JobLine) → Err s ≡ job_answer x → x ≡ refused s
head_denied s (refused t) e = let z : s ≡ t = cc in ap refused (sym z)
head_denied s (given j) e = cc

pub head_told : (j : JobHead) (x : Outcome JobLine) → Ok j ≡ job_answer x → x ≡ given (job_line_of j)
head_told j (refused t) e = cc
head_told j (given k) e = let z : j ≡ head_of k = cc in ap (λ (h : JobHead). given (job_line_of h)) (sym z)

module _ (text : List ℕ) (tableLength pixelsLength : ℕ) where
  -- its line is refused
  pub job_denied : (s : Refusal) → job_line text ≡ refused s → read_job text tableLength pixelsLength ≡ refused s
  unfolding read_job
  job_denied s e = ap (λ (x : Outcome JobLine). and_then x (λ j. roomed text j tableLength pixelsLength)) e

  -- its line is read
  pub job_roomed : (j : JobLine) → job_line text ≡ given j → read_job text tableLength pixelsLength ≡ roomed text j tableLength pixelsLength
  unfolding read_job
  job_roomed j e = ap (λ (x : Outcome JobLine). and_then x (λ j. roomed text j tableLength pixelsLength)) e
