-- Reading a line's strips from a cell on: where the next one begins and ends, and what follows it. A run of the line is the cells
-- from the first pixel on up to the first cell that is none. Assumes nothing.
use Rattle.list_laws.proofs.Kit.{◌∙◌, ◌≡◌, ap, refl, subst₂, sym, Bool, bool_beq, false, true, true≢false, ⊎_elim, List, [], ◌∷◌, ◌+◌, ◌-◌, ◌<◌, ◌≤◌, suc}
use Rattle.list_laws.proofs.Kit.{zero, ℕ, add-suc, add-zero, eq-or-lt_of_le, suc-add, zero-add, arith}
use Rattle.model.specs.Bounded.{first_from}
use Rattle.model.specs.Piece.{Shape, extent, other, cell}
use Rattle.model.specs.Strip.{Run, closing, runs_from, strips_from, strips}
use Rattle.model.specs.declared.Direction.{Direction}
use Rattle.model.specs.declared.Direction.TheVariants.{Horizontal, Vertical}
use Rattle.list_laws.proofs.Tests.{clash}
use Rattle.list_laws.proofs.Bounded.{First, first_from_lem}
use Rattle.piece_pixels.specs.Turned.{shown_by}
use Rattle.piece_pixels.specs.declared.Sides.{Sides}
use Rattle.piece_pixels.specs.declared.TurnedPiece.{TurnedPiece}
use Rattle.piece_pixels.proofs.Cells.{shown_sides}
use Rattle.strip_scan.specs.Scan.{turned_side, strips_in, strips_at, NextStripIs}

-- ── the box of a turned piece ──

-- the sides of the turned box are those of the turned piece: the box does not depend on the pixels
pub side_of_lem : (d : Direction) (pixels : List ℕ) (p : TurnedPiece) → turned_side d p ≡ extent d (shown_by pixels p)
side_of_lem Horizontal pixels p = ap (λ (s : Sides). s.columns) (shown_sides pixels p)
side_of_lem Vertical pixels p = ap (λ (s : Sides). s.rows) (shown_sides pixels p)

-- ── the runs of a line ──

-- numbers that fail are passed over
runs_skip : (f : ℕ → Bool) (a gap left : ℕ) → ((k : ℕ) → a ≤ k → k < a + gap → f k ≡ false)
    → runs_from f a (gap + left) 0 ≡ runs_from f (a + gap) left 0
unfolding runs_from
runs_skip f a zero left h = rw (zero-add, add-zero)
runs_skip f a (suc gap) left h =
    rw (suc-add gap left, h a (omega arith) (omega arith), runs_from)
    (runs_skip f (suc a) gap left (λ k l m. h k (omega arith) (omega arith)) ∙ ap (λ k. runs_from f k left 0) (suc-add a gap ∙ sym (add-suc a gap)))

-- numbers that pass are counted
runs_pass : (f : ℕ → Bool) (a gap left run : ℕ) → ((k : ℕ) → a ≤ k → k < a + gap → f k ≡ true)
    → runs_from f a (gap + left) run ≡ runs_from f (a + gap) left (run + gap)
unfolding runs_from
runs_pass f a zero left run h = rw (zero-add, add-zero, add-zero)
runs_pass f a (suc gap) left run h =
    rw (suc-add gap left, h a (omega arith) (omega arith), runs_from)
    (runs_pass f (suc a) gap left (suc run) (λ k l m. h k (omega arith) (omega arith))
    ∙ ap (λ k. runs_from f k left (suc run + gap)) (suc-add a gap ∙ sym (add-suc a gap))
    ∙ ap (runs_from f (a + suc gap) left) (suc-add run gap ∙ sym (add-suc run gap)))

-- a run ends before a number that fails, or at the end
runs_close : (f : ℕ → Bool) (e left run : ℕ) → (0 < left → f e ≡ false) → runs_from f e left run ≡ closing e run (runs_from f e left 0)
unfolding runs_from
runs_close f e zero zero h = refl
runs_close f e zero (suc run) h = refl
runs_close f e (suc left) run h = rw (h (omega arith), runs_from)

-- a test that fails to be true, or to be false
beq_true : (b : Bool) → bool_beq b true ≡ b
beq_true true = refl
beq_true false = refl

not-false : (b : Bool) → bool_beq b false ≡ false → b ≡ true
not-false true e = refl
not-false false e = absurd (true≢false e)

is_false : (b : Bool) → bool_beq b false ≡ true → b ≡ false
is_false true e = sym e
is_false false e = refl

-- the first pixel from a on, and the first cell from there on that is none
abbrev first_on : (ℕ → Bool) → ℕ → ℕ → ℕ
first_on f a n = first_from (λ k. bool_beq (f k) true) a (n - a)

abbrev first_off : (ℕ → Bool) → ℕ → ℕ → ℕ
first_off f a n = first_from (λ k. bool_beq (f k) false) a (n - a)

-- the runs from a on are those from the first pixel on
runs_on : (f : ℕ → Bool) (n a first : ℕ) → a ≤ n → first ≡ first_on f a n → runs_from f a (n - a) 0 ≡ runs_from f first (n - first) 0
runs_on f n a first l e =
    let w : First (λ k. bool_beq (f k) true) a (n - a) first = rw e (first_from_lem (λ k. bool_beq (f k) true) a (n - a)) in
    let low : a ≤ first = w.low in
    let high : first ≤ a + (n - a) = w.high in
    let p : n - a ≡ (first - a) + (n - first) = omega arith in
    let q : a + (first - a) ≡ first = omega arith in
    ap (λ k. runs_from f a k 0) p
    ∙ runs_skip f a (first - a) (n - first) (λ k u v. sym (beq_true (f k)) ∙ w.before k u (omega arith))
    ∙ ap (λ k. runs_from f k (n - first) 0) q

-- the next run of the line, and the runs after it
record NextRun (f : ℕ → Bool) (n a first end : ℕ) : Type 0 where
  listed : runs_from f a (n - a) 0 ≡ record { first = first; count = end - first } ∷ runs_from f end (n - end) 0
  some : first < end
  within : end ≤ n

-- a run that is not empty
closing_some : (e first run : ℕ) (later : List Run) → run ≡ e - first → first < e
    → closing e run later ≡ record { first = first; count = run } ∷ later
closing_some e first zero later h l = absurd (omega arith)
closing_some e first (suc run) later h l = let q : e - suc run ≡ first = omega arith in λ i. record { first = q i; count = suc run } ∷ later

-- a run does not end where it begins
apart : (f : ℕ → Bool) (n first end : ℕ) → f first ≡ true → (end < n → f end ≡ false) → first ≤ end → first < n → first < end
apart f n first end on off h k =
    ⊎_elim (λ (e : first ≡ end). absurd (clash on (ap f e ∙ off (omega arith)))) (λ (l : first < end). l) (eq-or-lt_of_le h)

-- the run that begins at the first pixel comes next
next_run : (f : ℕ → Bool) (n a first end : ℕ) → a ≤ n → first ≡ first_on f a n → first < n → end ≡ first_off f first n → NextRun f n a first end
next_run f n a first end l e m g =
    let w : First (λ k. bool_beq (f k) true) a (n - a) first = rw e (first_from_lem (λ k. bool_beq (f k) true) a (n - a)) in
    let v : First (λ k. bool_beq (f k) false) first (n - first) end = rw g (first_from_lem (λ k. bool_beq (f k) false) first (n - first)) in
    let on : f first ≡ true = sym (beq_true (f first)) ∙ w.passing (omega arith) in
    let low : first ≤ end = v.low in
    let high : end ≤ first + (n - first) = v.high in
    let off : end < n → f end ≡ false = λ h. is_false (f end) (v.passing (omega arith)) in
    let some : first < end = apart f n first end on off low m in
    let p : n - first ≡ (end - first) + (n - end) = omega arith in
    let q : first + (end - first) ≡ end = omega arith in
    let r : 0 + (end - first) ≡ end - first = omega arith in
    record {
      listed =
          runs_on f n a first l e
          ∙ ap (λ k. runs_from f first k 0) p
          ∙ runs_pass f first (end - first) (n - end) 0 (λ k u h. not-false (f k) (v.before k u (omega arith)))
          ∙ ap (λ k. runs_from f k (n - end) (0 + (end - first))) q
          ∙ ap (runs_from f end (n - end)) r
          ∙ runs_close f end (n - end) (end - first) (λ h. off (omega arith))
          ∙ closing_some end first (end - first) (runs_from f end (n - end) 0) refl some;
      some = some;
      within = omega arith;
    }

-- ── the strips from a cell on ──

-- a line whole, and the lines after it
pub whole_line : (d : Direction) (s : Shape) (c left : ℕ) → strips_in d s c 0 left ≡ strips_from d s c left
unfolding strips_in strips_from
whole_line d s c zero = refl
whole_line d s c (suc left) = let h : extent d s - 0 ≡ extent d s = omega arith in rw h

-- all strips
pub all_strips : (d : Direction) (s : Shape) → strips_at d s 0 0 ≡ strips d s
all_strips d s = let h : extent (other d) s - 0 ≡ extent (other d) s = omega arith in rw h (whole_line d s 0 (extent (other d) s))

-- past the last line there is no strip
pub none_left_lem : (d : Direction) (s : Shape) (c a : ℕ) → extent (other d) s ≤ c → strips_at d s c a ≡ []
unfolding strips_in
none_left_lem d s c a l = let h : extent (other d) s - c ≡ 0 = omega arith in rw h

-- a line that has no more pixel
pub line_done : (d : Direction) (s : Shape) (c a first : ℕ) → c < extent (other d) s → a ≤ extent d s
    → first ≡ first_on (λ k. cell d s k c) a (extent d s) → extent d s ≤ first → strips_at d s c a ≡ strips_at d s (c + 1) 0
unfolding strips_in runs_from
line_done d s c a first l h e m =
    let n : ℕ = extent d s in
    let p : extent (other d) s - c ≡ suc (extent (other d) s - suc c) = omega arith in
    let q : c + 1 ≡ suc c = omega arith in
    let r : n - first ≡ 0 = omega arith in
    let t : runs_from (λ k. cell d s k c) a (n - a) 0 ≡ [] =
    runs_on (λ k. cell d s k c) n a first h e ∙ ap (λ k. runs_from (λ k. cell d s k c) first k 0) r in
    rw (p, q, t, whole_line d s (suc c) (extent (other d) s - suc c))

-- a strip that begins at the line's first pixel and ends before the first cell that is none comes next
pub next_found : (d : Direction) (s : Shape) (c a first end : ℕ) → c < extent (other d) s → a ≤ extent d s
    → first ≡ first_on (λ k. cell d s k c) a (extent d s) → first < extent d s → end ≡ first_off (λ k. cell d s k c) first (extent d s)
    → NextStripIs d s c a (record { line = c; first = first; count = end - first })
unfolding strips_in
next_found d s c a first end l h e m g =
    let w : NextRun (λ k. cell d s k c) (extent d s) a first end = next_run (λ k. cell d s k c) (extent d s) a first end h e m g in
    let some : first < end = w.some in
    let within : end ≤ extent d s = w.within in
    let p : extent (other d) s - c ≡ suc (extent (other d) s - suc c) = omega arith in
    let q : first + (end - first) ≡ end = omega arith in
    record { next = rw (p, q, w.listed); within = omega arith; line = l }

-- ── the same of a turned piece, by the sides that the code computes ──

-- the next strip of a turned piece
pub piece_found : (d : Direction) (pixels : List ℕ) (p : TurnedPiece) (c a first end : ℕ) → c < turned_side (other d) p → a ≤ turned_side d p
    → first ≡ first_on (λ k. cell d (shown_by pixels p) k c) a (turned_side d p) → first < turned_side d p
    → end ≡ first_off (λ k. cell d (shown_by pixels p) k c) first (turned_side d p)
    → NextStripIs d (shown_by pixels p) c a (record { line = c; first = first; count = end - first })
piece_found d pixels p c a first end =
    let s : Shape = shown_by pixels p in
    subst₂
    (λ n m. c < m → a ≤ n → first ≡ first_on (λ k. cell d s k c) a n → first < n → end ≡ first_off (λ k. cell d s k c) first n
    → NextStripIs d s c a (record { line = c; first = first; count = end - first }))
    (sym (side_of_lem d pixels p)) (sym (side_of_lem (other d) pixels p)) (next_found d s c a first end)

-- a line of a turned piece that has no more pixel
pub piece_line_done : (d : Direction) (pixels : List ℕ) (p : TurnedPiece) (c a first : ℕ) → c < turned_side (other d) p → a ≤ turned_side d p
    → first ≡ first_on (λ k. cell d (shown_by pixels p) k c) a (turned_side d p) → turned_side d p ≤ first
    → strips_at d (shown_by pixels p) c a ≡ strips_at d (shown_by pixels p) (c + 1) 0
piece_line_done d pixels p c a first =
    let s : Shape = shown_by pixels p in
    subst₂ (λ n m. c < m → a ≤ n → first ≡ first_on (λ k. cell d s k c) a n → n ≤ first → strips_at d s c a ≡ strips_at d s (c + 1) 0)
    (sym (side_of_lem d pixels p)) (sym (side_of_lem (other d) pixels p)) (line_done d s c a first)

-- past the last line of a turned piece
pub piece_none_left : (d : Direction) (pixels : List ℕ) (p : TurnedPiece) (c a : ℕ) → turned_side (other d) p ≤ c
    → strips_at d (shown_by pixels p) c a ≡ []
piece_none_left d pixels p c a l = none_left_lem d (shown_by pixels p) c a (rw (side_of_lem (other d) pixels p) at l)
