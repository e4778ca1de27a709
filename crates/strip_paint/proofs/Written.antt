-- The bytes that clearing the box and setting its strips leave are those of the rebuilt set, and what lies beyond is as it was.
-- Assumes nothing.
use Rattle.list_laws.proofs.Kit.{◌∙◌, ◌≡◌, ap, refl, subst, sym, Bool, false, true, ⊎_elim, List, ◌++◌, ◌%◌, ◌*◌, ◌+◌, ◌-◌, ◌/◌, ◌<◌, ◌≤◌, suc, zero, ℕ}
use Rattle.list_laws.proofs.Kit.{add-suc, add-zero, div-add-mod', mod-lt, mul_comm, suc-add, arith, get_or-append, drop, get_or, get_or-replicate, length}
use Rattle.list_laws.proofs.Kit.{length-append, length-drop, length-replicate, replicate, ext_get_or, get_or-append-add}
use Rattle.model.specs.Bounded.{one_if}
use Rattle.model.specs.Piece.{Point, Shape, along, across}
use Rattle.model.specs.Strip.{Strip, strips_have, rebuilt}
use Rattle.model.specs.Buffer.{bytes_from, bytes_of, filled}
use Rattle.model.specs.Calls.{rebuilt_from}
use Rattle.model.specs.declared.Direction.{Direction}
use Rattle.model.specs.declared.Direction.TheVariants.{Horizontal, Vertical}
use Rattle.list_laws.proofs.Numbers.{in_rows_lem, below_or}
use Rattle.list_laws.proofs.Tests.{fails}
use Rattle.strip_laws.proofs.Strips.{InStrips, have_in}
use Rattle.strip_laws.specs.Strips.{StripFits, ValidStrips}
use Rattle.strip_paint.specs.Paint.{over, Painted, PaintRoom}
use Rattle.strip_check.proofs.Validity.{strips_of}

-- ── bytes of a set ──

bytes_length : (s : Shape) (k left : ℕ) → length (bytes_from s k left) ≡ left
unfolding bytes_from
bytes_length s k zero = refl
bytes_length s k (suc left) = ap suc (bytes_length s (suc k) left)

bytes_at : (s : Shape) (k left i : ℕ) → i < left → get_or (bytes_from s k left) i 0 ≡ one_if (s.has ((k + i) % s.columns) ((k + i) / s.columns))
unfolding bytes_from
bytes_at s k zero i h = absurd (omega arith)
bytes_at s k (suc left) zero h = rw add-zero
bytes_at s k (suc left) (suc i) h =
    bytes_at s (suc k) left i (omega arith) ∙ ap (λ n. one_if (s.has (n % s.columns) (n / s.columns))) (suc-add k i ∙ sym (add-suc k i))

-- ── two parts of a list ──

high_part : (xs ys : List ℕ) (k : ℕ) → length xs ≤ k → get_or (xs ++ ys) k 0 ≡ get_or ys (k - length xs) 0
high_part xs ys k h =
    let e : length xs + (k - length xs) ≡ k = omega arith in
    subst (λ (n : ℕ). get_or (xs ++ ys) n 0 ≡ get_or ys (k - length xs) 0) e (get_or-append-add xs ys (k - length xs) 0)

-- ── above the box there is no strip ──

above : (d : Direction) (l w : ℕ) (t : Strip) (p : Point) → StripFits d l w t → w ≤ p.y → t.line ≡ across d p → along d p < t.first + t.count → ⊥
above Horizontal l w t p f h e a = let b : t.line < w = f.line in omega arith
above Vertical l w t p f h e a = let b : t.first + t.count ≤ w = f.within in omega arith

none_above : (d : Direction) (l w : ℕ) (es : List (List ℕ)) (p : Point) → ValidStrips d l w (strips_of es) → w ≤ p.y
    → strips_have d (strips_of es) p ≡ false
none_above d l w es p v h =
    fails (strips_have d (strips_of es) p)
    (λ e.
    let q : InStrips d (strips_of es) p = have_in d (strips_of es) p e in
    above d l w q.strip p (v.fits q.strip q.listed) h q.line q.high)

over_zero : (b : Bool) → over b 0 ≡ one_if b
over_zero true = refl
over_zero false = refl

-- the pixels of the rebuilt set
rebuilt_has : (d : Direction) (l w : ℕ) (ts : List Strip) (x y : ℕ) → (rebuilt d l w ts).has x y ≡ strips_have d ts (record { x = x; y = y })
unfolding rebuilt
rebuilt_has d l w ts x y = refl

-- so many zeros
abbrev zeros : ℕ → List ℕ
zeros n = replicate n 0

zeros_length : (n : ℕ) → length (zeros n) ≡ n
zeros_length n = length-replicate {A = ℕ} n 0

-- ── the buffer ──

module _ (d : Direction) (l w : ℕ) (es : List (List ℕ)) (old after : List ℕ) (room : PaintRoom l w old) (v : ValidStrips d l w (strips_of es))
    (painted : Painted l (strips_have d (strips_of es)) (zeros (l * w) ++ drop (l * w) old) after) where
  -- a byte of the box
  low_byte : (i : ℕ) → i < l * w → get_or after i 0 ≡ get_or (bytes_of (rebuilt d l w (strips_of es)) ++ drop (l * w) old) i 0
  unfolding rebuilt
  low_byte i h =
      let s : Shape = rebuilt d l w (strips_of es) in
      let wide : 0 < l = room.wide in
      let e : i / l * l + i % l ≡ i = div-add-mod' i l in
      let n : length (bytes_of s) ≡ l * w = bytes_length s 0 (l * w) in
      let z : 0 + i ≡ i = omega arith in
      let p : Point = record { x = i % l; y = i / l } in
      let b = painted.bytes (i % l) (i / l) (mod-lt i wide) in
      (rw e at b)
      ∙ ap (over (strips_have d (strips_of es) p))
      (get_or-append (zeros (l * w)) (drop (l * w) old) 0 i (rw (zeros_length (l * w)) h) ∙ get_or-replicate (l * w) i 0 0 h)
      ∙ over_zero (strips_have d (strips_of es) p)
      ∙ ap (λ k. one_if (s.has (k % l) (k / l))) (sym z)
      ∙ sym (bytes_at s 0 (l * w) i h)
      ∙ sym (get_or-append (bytes_of s) (drop (l * w) old) 0 i (rw n h))

  -- a byte beyond it
  high_byte : (i : ℕ) → l * w ≤ i → get_or after i 0 ≡ get_or (bytes_of (rebuilt d l w (strips_of es)) ++ drop (l * w) old) i 0
  unfolding rebuilt
  high_byte i h =
      let s : Shape = rebuilt d l w (strips_of es) in
      let wide : 0 < l = room.wide in
      let e : i / l * l + i % l ≡ i = div-add-mod' i l in
      let n : length (bytes_of s) ≡ l * w = bytes_length s 0 (l * w) in
      let m : length (zeros (l * w)) ≡ l * w = zeros_length (l * w) in
      let p : Point = record { x = i % l; y = i / l } in
      let y : w ≤ i / l =
      ⊎_elim (λ (q : i / l < w). absurd (let k = in_rows_lem {l = l} {w = w} {x = i % l} {y = i / l} (mod-lt i wide) q in omega (arith, mul_comm l w)))
      (λ (q : w ≤ i / l). q) (below_or (i / l) w) in
      let b = painted.bytes (i % l) (i / l) (mod-lt i wide) in
      (rw e at b)
      ∙ ap (λ t. over t (get_or (zeros (l * w) ++ drop (l * w) old) i 0)) (none_above d l w es p v y)
      ∙ high_part (zeros (l * w)) (drop (l * w) old) i (rw m h)
      ∙ ap (λ k. get_or (drop (l * w) old) (i - k) 0) (m ∙ sym n)
      ∙ sym (high_part (bytes_of s) (drop (l * w) old) i (rw n h))

  -- the buffer holds the rebuilt set's bytes, and beyond them what it held
  pub written : after ≡ filled (bytes_of (rebuilt_from d l w es)) old
  unfolding rebuilt
  written =
      let s : Shape = rebuilt d l w (strips_of es) in
      let n : length (bytes_of s) ≡ l * w = bytes_length s 0 (l * w) in
      let long : l * w ≤ length old = room.long in
      let size : length after ≡ length (bytes_of s ++ drop (l * w) old) =
      painted.long ∙ simp (length-append, zeros_length, length-drop, n) in
      ext_get_or 0 after (bytes_of s ++ drop (l * w) old) size
      (λ i h. ⊎_elim (λ (q : i < l * w). low_byte i q) (λ (q : l * w ≤ i). high_byte i q) (below_or i (l * w)))
      ∙ ap (λ k. bytes_of s ++ drop k old) (sym n)
