-- The counts of a record made anew: piece after piece, each pixel's count grows by whether the piece is laid on it, so that after all
-- pieces it is the number of laid pieces on it; and two lists of counts of which one is so made are the same where each count of the
-- other is that number. Assumes nothing.
use Rattle.list_laws.proofs.Kit.{◌∙◌, ◌≡◌, ap, refl, sym, Bool, false, true, ⊎_elim, List, [], ◌∷◌, ◌*◌, ◌+◌, ◌-◌, ◌<◌, ◌≤◌, suc, ℕ, add-one, zero-add, arith}
use Rattle.list_laws.proofs.Kit.{eqb, get_or, get_or-replicate, length, length-replicate, replicate, ext_get_or, eq-eqb, eqb-true, lt-ltb}
use Rattle.model.specs.Bounded.{all_below, sum_below, one_if}
use Rattle.model.specs.Layout.{Job, inside}
use Rattle.model.specs.Lent.{piece_bound}
use Rattle.model.specs.Cover.{entry_in, map_from, laid_on, laid_count, entry_well}
use Rattle.model.specs.declared.Entry.{Entry}
use Rattle.list_laws.proofs.Sums.{passing_bound}
use Rattle.list_laws.proofs.Bounded.{all_at, all_from}
use Rattle.list_laws.proofs.Tests.{clash, same_tests}
use Rattle.cover_laws.proofs.Calls.{length_map_from, get_d_map_from}
use Rattle.cover_laws.proofs.Counts.{LaidWell}
use Rattle.cover_laws.proofs.Reached.{entry_sound}
use Rattle.sheet_counts.specs.Stamp.{moved, moved_by}
use Rattle.sheet_counts.specs.declared.Change.TheVariants.{OneMore, OneLess}
use Rattle.sheet_check.specs.Counted.{added_entry, Recounted}

-- ── one count ──

-- below a byte's last count, laying adds one where the piece covers the pixel
pub moved_up : (b : Bool) (c : ℕ) → c < 255 → moved OneMore b c ≡ c + one_if b
moved_up true c l = rw (lt-ltb c 255 l, moved)
moved_up false c l = omega arith

-- withdrawing takes one off
pub moved_down : (b : Bool) (c : ℕ) → moved OneLess b c ≡ c - one_if b
moved_down true c = refl
moved_down false c = omega arith

-- ── one piece ──

-- a map that changes nothing
map_same : (k : ℕ) (cs : List ℕ) → map_from (λ m c. c) k cs ≡ cs
unfolding map_from
map_same k [] = refl
map_same k (c ∷ cs) = ap (λ (l : List ℕ). c ∷ l) (map_same (suc k) cs)

-- a laid entry of a record that passes the test is inside
pub laid_inside : (j : Job) (es : List Entry) (i : ℕ) (e : Entry) → e ≡ entry_in es i → all_below piece_bound (entry_well j es) ≡ true → i < piece_bound
    → e.laid ≡ true → inside j i e.place ≡ true
laid_inside j es i e same well l laid =
    ⊎_elim (λ q. absurd (clash laid (ap (λ (x : Entry). x.laid) (same ∙ q)))) (λ (w : LaidWell j i (entry_in es i)). rw same w.within)
    (entry_sound j es i (all_at piece_bound (entry_well j es) well i l))

-- a piece that is not laid changes no count
pub free_added : (j : Job) (es : List Entry) (i : ℕ) (e : Entry) (cs : List ℕ) → e ≡ entry_in es i → e.laid ≡ false → cs ≡ added_entry j es i cs
free_added j es i e cs same free = sym (rw (← same, free) (map_same 0 cs))

-- a laid piece is added where it lies
pub laid_added : (j : Job) (es : List Entry) (i : ℕ) (e : Entry) (cs : List ℕ) → e ≡ entry_in es i → e.laid ≡ true
    → moved_by OneMore j i e.place cs ≡ added_entry j es i cs
laid_added j es i e cs same laid = sym (rw (← same, laid))

-- ── piece after piece ──

-- each count is the number of the pieces below i that are laid on its pixel
abbrev pub CountedBelow : Job → List Entry → ℕ → List ℕ → Type 0
CountedBelow j es i cs = (k : ℕ) → k < length cs → get_or cs k 0 ≡ sum_below i (λ m. one_if (laid_on j es k m))

pub length_added : (j : Job) (es : List Entry) (i : ℕ) (cs : List ℕ) → length (added_entry j es i cs) ≡ length cs
length_added j es i cs = length_map_from _ 0 cs

-- before the first piece
pub none_counted : (j : Job) (es : List Entry) (n : ℕ) → CountedBelow j es 0 (replicate n 0)
none_counted j es n k l = get_or-replicate n k 0 0 (rw (length-replicate {A = ℕ} n 0) at l)

-- one piece more
pub added_below : (j : Job) (es : List Entry) (i : ℕ) (cs : List ℕ) → i < piece_bound → CountedBelow j es i cs
    → CountedBelow j es (i + 1) (added_entry j es i cs)
added_below j es i cs few counted k l =
    let l' : k < length cs = rw (length_added j es i cs) at l in
    let so : get_or cs k 0 ≡ sum_below i (λ m. one_if (laid_on j es k m)) = counted k l' in
    let bound : sum_below i (λ m. one_if (laid_on j es k m)) ≤ i = passing_bound i (laid_on j es k) in
    get_d_map_from (λ m c. moved OneMore (laid_on j es m i) c) 0 cs k l' ∙ ap (λ (n : ℕ). moved OneMore (laid_on j es n i) (get_or cs k 0)) (zero-add k)
    ∙ moved_up (laid_on j es k i) (get_or cs k 0) (omega arith) ∙ ap (λ (n : ℕ). n + one_if (laid_on j es k i)) so
    ∙ sym (ap (λ (n : ℕ). sum_below n (λ m. one_if (laid_on j es k m))) (add-one i))

-- after all pieces
pub all_counted : (j : Job) (es : List Entry) (cs : List ℕ) → length cs ≡ j.size.rows * j.size.columns → CountedBelow j es j.size.count cs
    → Recounted j es cs
unfolding laid_count
all_counted j es cs full counted = record { full = full; counts = λ k l. counted k (omega arith) }

-- ── the comparison ──

-- a test that two lists are the same, where one is the counts made anew, asks of each count of the other that it is the number of
-- laid pieces on its pixel
pub same_counted : (j : Job) (es : List Entry) (made cs : List ℕ) (r : Bool) → Recounted j es made → length cs ≡ j.size.rows * j.size.columns
    → (r ≡ true → made ≡ cs) → (made ≡ cs → r ≡ true) → r ≡ all_below (j.size.rows * j.size.columns) (λ k. eqb (get_or cs k 0) (laid_count j es k))
same_counted j es made cs r known full is_same same-is =
    same_tests r (all_below (j.size.rows * j.size.columns) (λ k. eqb (get_or cs k 0) (laid_count j es k)))
    (λ t.
    all_from (j.size.rows * j.size.columns) (λ k. eqb (get_or cs k 0) (laid_count j es k))
    (λ k l. eq-eqb (get_or cs k 0) (laid_count j es k) (rw (← (is_same t)) (known.counts k l))))
    (λ t.
    same-is
    (ext_get_or 0 made cs (known.full ∙ sym full)
    (λ k l.
    let l' : k < j.size.rows * j.size.columns = let e = known.full in omega arith in
    known.counts k l'
    ∙ sym (eqb-true (get_or cs k 0) (laid_count j es k) (all_at (j.size.rows * j.size.columns) (λ m. eqb (get_or cs m 0) (laid_count j es m)) t k l')))))
