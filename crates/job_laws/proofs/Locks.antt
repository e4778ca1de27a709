-- A lock that is set in a piece table (document 02, point 6): the entry's fourth number is 1 then and all else is as it was, so that a job that
-- passes its check passes it again. Assumes nothing.
use Rattle.list_laws.proofs.Kit.{◌∙◌, ◌≡◌, ap, refl, subst, subst₂, subst₃, sym, ◌&&◌, true, ◌≢◌, ⊎_elim, List, [], ◌∷◌, ◌*◌, ◌+◌, ◌<◌, ◌≤◌, ℕ, arith}
use Rattle.list_laws.proofs.Kit.{eqb, leb, ltb, get_or, length, length-set, set, get_or-set_other, get_or-set_same, set_out, set-set, eqb-false, eqb-true, le-leb}
use Rattle.list_laws.proofs.Kit.{ltb-false, ltb-true}
use Rattle.model.specs.Bounded.{sum_below}
use Rattle.model.specs.Piece.{Shape, tight}
use Rattle.model.specs.Lent.{Lent, lent_by, lock_bound, sides_in_range, entry_columns, entry_rows, entry_turns, entry_lock, pixel_start, entry_in_range, entry_fits}
use Rattle.model.specs.Lent.{lent_shape, lent_well}
use Rattle.model.specs.Calls.{with_lock}
use Rattle.list_laws.proofs.Tests.{and_left, and_both, decided}
use Rattle.job_laws.proofs.Checked.{Facts, facts, well}

-- ── the table ──

-- entry i with its lock set
abbrev locked_entry : List (List ℕ) → ℕ → List ℕ
locked_entry table i = entry_columns table i ∷ entry_rows table i ∷ entry_turns table i ∷ 1 ∷ []

-- the table has as many entries
pub lock_length : (table : List (List ℕ)) (i : ℕ) → length (with_lock table i) ≡ length table
unfolding with_lock
lock_length table i = length-set table i (locked_entry table i)

-- every other entry is as it was
pub lock_others : (table : List (List ℕ)) (i m : ℕ) → m ≢ i → get_or (with_lock table i) m [] ≡ get_or table m []
unfolding with_lock
lock_others table i m ne = get_or-set_other table i m (locked_entry table i) [] ne

-- an entry beyond the table is none
lock_out : (table : List (List ℕ)) (i : ℕ) → length table ≤ i → with_lock table i ≡ table
unfolding with_lock
lock_out table i l = set_out table i (locked_entry table i) l

-- the entry's fourth number is 1, the others are as they were
pub lock_entry : (table : List (List ℕ)) (i : ℕ) → i < length table → get_or (with_lock table i) i [] ≡ locked_entry table i
unfolding with_lock
lock_entry table i l = get_or-set_same table i (locked_entry table i) [] l

-- a second time nothing changes
pub lock_twice : (table : List (List ℕ)) (i : ℕ) → i < length table → with_lock (with_lock table i) i ≡ with_lock table i
unfolding with_lock
lock_twice table i l =
    ap (λ (e : List ℕ). set (with_lock table i) i (get_or e 0 0 ∷ get_or e 1 0 ∷ get_or e 2 0 ∷ 1 ∷ [])) (lock_entry table i l)
    ∙ set-set table i (locked_entry table i) (locked_entry table i)

-- what holds of an entry as it was and of one with its lock set holds of each entry
lock_cases : (P : List ℕ → Type 0) (table : List (List ℕ)) (i m : ℕ) → P (get_or table m []) → P (locked_entry table m)
    → P (get_or (with_lock table i) m [])
lock_cases P table i m old new =
    ⊎_elim
    (λ e.
    let same : m ≡ i = eqb-true m i e in
    ⊎_elim
    (λ l. rw same (subst P (sym (lock_entry table i (ltb-true i (length table) l))) (subst (λ (k : ℕ). P (locked_entry table k)) same new)))
    (λ l. rw (lock_out table i (ltb-false i (length table) l)) old) (decided (ltb i (length table))))
    (λ e. subst P (sym (lock_others table i m (eqb-false m i e))) old) (decided (eqb m i))

-- the columns, the rows and the turns of every entry are as they were
pub lock_columns : (table : List (List ℕ)) (i m : ℕ) → entry_columns (with_lock table i) m ≡ entry_columns table m
lock_columns table i m = lock_cases (λ e. get_or e 0 0 ≡ entry_columns table m) table i m refl refl

pub lock_rows : (table : List (List ℕ)) (i m : ℕ) → entry_rows (with_lock table i) m ≡ entry_rows table m
lock_rows table i m = lock_cases (λ e. get_or e 1 0 ≡ entry_rows table m) table i m refl refl

pub lock_turns : (table : List (List ℕ)) (i m : ℕ) → entry_turns (with_lock table i) m ≡ entry_turns table m
lock_turns table i m = lock_cases (λ e. get_or e 2 0 ≡ entry_turns table m) table i m refl refl

-- the lock is set
pub lock_sets : (table : List (List ℕ)) (i : ℕ) → i < length table → entry_lock (with_lock table i) i ≡ 1
lock_sets table i l = ap (λ (e : List ℕ). get_or e 3 0) (lock_entry table i l)

-- no lock is cleared
pub lock_stays : (table : List (List ℕ)) (i m : ℕ) → eqb (entry_lock table m) 1 ≡ true → eqb (entry_lock (with_lock table i) m) 1 ≡ true
lock_stays table i m h = lock_cases (λ e. eqb (get_or e 3 0) 1 ≡ true) table i m h refl

-- and every lock is at most 1 as before
lock_small_lem : (table : List (List ℕ)) (i m : ℕ) → entry_lock table m ≤ lock_bound → entry_lock (with_lock table i) m ≤ lock_bound
lock_small_lem table i m h = lock_cases (λ e. get_or e 3 0 ≤ lock_bound) table i m h (omega arith)

-- ── the job ──

-- the pieces' pixels begin where they did
pub lock_start : (table : List (List ℕ)) (i : ℕ) → pixel_start (with_lock table i) ≡ pixel_start table
unfolding pixel_start
lock_start table i = λ t n. sum_below n (λ m. lock_columns table i m t * lock_rows table i m t)

-- and have the same shapes
pub lock_shape : (l : Lent) (i : ℕ) → lent_shape (lent_by l.size (with_lock l.table i) l.pixels) ≡ lent_shape l
lock_shape l i = λ t m.
    record {
      columns = lock_columns l.table i m t;
      rows = lock_rows l.table i m t;
      has = λ x y. eqb (get_or l.pixels (lock_start l.table i t m + (y * lock_columns l.table i m t + x)) 0) 1;
    }

-- it passes its check again
pub lock_well : (l : Lent) (i : ℕ) → lent_well l ≡ true → lent_well (lent_by l.size (with_lock l.table i) l.pixels) ≡ true
unfolding entry_in_range entry_fits
lock_well l i e =
    let f : Facts l = facts l e in
    let n : ℕ = l.size.count in
    let start : pixel_start (with_lock l.table i) n ≡ pixel_start l.table n = ap (λ (s : ℕ → ℕ). s n) (lock_start l.table i) in
    well (lent_by l.size (with_lock l.table i) l.pixels)
    (record {
      sheet = f.sheet;
      entries = rw (lock_length l.table i) f.entries;
      ranges = λ m b.
          and_both
          (subst₃ (λ (c r t : ℕ). sides_in_range c r t ≡ true) (sym (lock_columns l.table i m)) (sym (lock_rows l.table i m))
          (sym (lock_turns l.table i m)) (and_left _ _ (f.ranges m b)))
          (le-leb (entry_lock (with_lock l.table i) m) lock_bound (lock_small_lem l.table i m (f.lock_small m b)));
      fits = λ m b.
          subst₂ (λ (c r : ℕ). (leb c l.size.columns && leb r l.size.rows) ≡ true) (sym (lock_columns l.table i m))
          (sym (lock_rows l.table i m)) (f.fits m b);
      areas = rw start f.areas;
      store = rw start f.store;
      bits = λ k b. f.bits k (rw start at b);
      tight_boxes = λ m b. ap (λ (s : ℕ → Shape). tight (s m)) (lock_shape l i) ∙ f.tight_boxes m b;
    })
