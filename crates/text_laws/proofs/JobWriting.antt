-- Laws of the written job text (document 01, 'Job text'): parts of the pixel store, and the pixel bytes of pieces one after the other.
-- Assumes nothing.
use Rattle.list_laws.proofs.Kit.{◌∙◌, ◌≡◌, ap, refl, sym, List, [], ◌++◌, ◌∷◌, ◌*◌, ◌+◌, ◌<◌, ◌≤◌, suc, zero, ℕ, add-zero, suc-add, zero-add, arith, get_or}
use Rattle.list_laws.proofs.Kit.{length, take, ext_get_or, get_or-take, length-take-le}
use Rattle.model.specs.Lent.{Lent, entry_columns, entry_rows, pixel_start}
use Rattle.text_laws.specs.JobWriting.{bytes_part}

-- the pixel bytes of `left` pieces from number i on
abbrev pub pixels_from : Lent → ℕ → ℕ → List ℕ
pixels_from k i zero = []
pixels_from k i (suc left) =
    bytes_part k.pixels (pixel_start k.table i) (entry_rows k.table i * entry_columns k.table i) ++ pixels_from k (suc i) left

-- ── parts ──

-- a part has its length
pub part_length : (ks : List ℕ) (s n : ℕ) → length (bytes_part ks s n) ≡ n
part_length ks s zero = refl
part_length ks s (suc n) = ap suc (part_length ks (suc s) n)

-- the numbers of a part
pub part_at : (ks : List ℕ) (s n i : ℕ) → i < n → get_or (bytes_part ks s n) i 0 ≡ get_or ks (s + i) 0
part_at ks s zero i h = absurd (omega arith)
part_at ks s (suc n) zero h = rw add-zero
part_at ks s (suc n) (suc i) h = part_at ks (suc s) n i (omega arith) ∙ ap (λ (k : ℕ). get_or ks k 0) (omega arith)

-- a part and the part after it
pub part_append : (ks : List ℕ) (s m n : ℕ) → bytes_part ks s (m + n) ≡ bytes_part ks s m ++ bytes_part ks (s + m) n
part_append ks s zero n = rw (zero-add, add-zero)
part_append ks s (suc m) n =
    ap (λ (k : ℕ). bytes_part ks s k) (suc-add m n)
    ∙ ap (λ (l : List ℕ). get_or ks s 0 ∷ l)
    (part_append ks (suc s) m n ∙ ap (λ (k : ℕ). bytes_part ks (suc s) m ++ bytes_part ks k n) (omega arith))

-- the part from 0 on is the front of the list
pub part_front : (ks : List ℕ) (n : ℕ) → n ≤ length ks → bytes_part ks 0 n ≡ take n ks
part_front ks n h =
    ext_get_or 0 (bytes_part ks 0 n) (take n ks) (part_length ks 0 n ∙ sym (length-take-le n ks h))
    (λ i l.
    let l' : i < n = let e = part_length ks 0 n in omega arith in
    part_at ks 0 n i l' ∙ ap (λ (k : ℕ). get_or ks k 0) (zero-add i) ∙ sym (get_or-take n ks i 0 l'))
