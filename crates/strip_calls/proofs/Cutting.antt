-- Where a stretch is cut out of a lent store: each start is the number of strips before, so starts grow and none is past the store.
-- Assumes nothing.
use Rattle.list_laws.proofs.Kit.{◌∙◌, ◌≡◌, ap, sym, true, List, map, ◌+◌, ◌<◌, ◌≤◌, min, suc, zero, ℕ, arith, get_or, length, length-append, length-map}
use Rattle.list_laws.proofs.Kit.{length-take, take, get_or-take}
use Rattle.model.specs.Buffer.{strip_entry, same_entries}
use Rattle.model.specs.Layout.{Job}
use Rattle.model.specs.Store.{piece_strips, store_from, starts_from, store, starts, store_well}
use Rattle.model.specs.declared.Direction.{Direction}
use Rattle.list_laws.proofs.Equal.{same_numbers_lem, same_entries_lem}
use Rattle.list_laws.proofs.Tests.{and_left, and_right}
use Rattle.strip_calls.specs.Stores.{Cut}
use Rattle.strip_store.proofs.Filling.{starts_length}

-- a start is the number of strips before
start_at : (d : Direction) (j : Job) (ts : List ℕ) (at i left k : ℕ) → k ≤ left
    → get_or (starts_from d j ts at i left) k 0 ≡ at + length (store_from d j ts i k)
unfolding starts_from store_from
start_at d j ts at i zero zero h = omega arith
start_at d j ts at i zero (suc k) h = absurd (omega arith)
start_at d j ts at i (suc left) zero h = omega arith
start_at d j ts at i (suc left) (suc k) h =
    let e = start_at d j ts (at + length (piece_strips d j ts i)) (suc i) left k (omega arith) in
    let m = length-append (piece_strips d j ts i) (store_from d j ts (suc i) k) in
    omega arith

-- more pieces have no fewer strips
store_grows : (d : Direction) (j : Job) (ts : List ℕ) (i k left : ℕ) → k ≤ left → length (store_from d j ts i k) ≤ length (store_from d j ts i left)
unfolding store_from
store_grows d j ts i zero left h = omega arith
store_grows d j ts i (suc k) zero h = absurd (omega arith)
store_grows d j ts i (suc k) (suc left) h =
    let e = store_grows d j ts (suc i) k left (omega arith) in
    let m = length-append (piece_strips d j ts i) (store_from d j ts (suc i) k) in
    let n = length-append (piece_strips d j ts i) (store_from d j ts (suc i) left) in
    omega arith

-- a piece's stretch is cut out of a lent store that is the job's
pub cut_from : (d : Direction) (j : Job) (ts : List ℕ) (entries : List (List ℕ)) (lent : List ℕ) (i : ℕ)
    → store_well d j ts entries lent ≡ true → i < j.size.count → Cut entries lent i
unfolding store_well
cut_from d j ts entries lent i e h =
    let n : ℕ = length (store d j ts) in
    let begins : take n entries ≡ map strip_entry (store d j ts) = same_entries_lem _ _ (and_left _ _ e) in
    let counted : take (suc j.size.count) lent ≡ starts d j ts =
    same_numbers_lem _ _ (and_right (same_entries (take n entries) (map strip_entry (store d j ts))) _ e) in
    let long : min n (length entries) ≡ n = sym (length-take n entries) ∙ ap length begins ∙ length-map (store d j ts) strip_entry in
    let many : min (suc j.size.count) (length lent) ≡ suc j.size.count =
    sym (length-take (suc j.size.count) lent) ∙ ap length counted ∙ starts_length d j ts 0 0 j.size.count in
    let at : (k : ℕ) → k ≤ j.size.count → get_or lent k 0 ≡ 0 + length (store_from d j ts 0 k) =
    λ k b. sym (get_or-take (suc j.size.count) lent k 0 (omega arith)) ∙ ap (λ (x : List ℕ). get_or x k 0) counted ∙ start_at d j ts 0 0 j.size.count k b in
    let here = at i (omega arith) in
    let next = at (suc i) (omega arith) in
    let one = store_grows d j ts 0 i (suc i) (omega arith) in
    let all = store_grows d j ts 0 (suc i) j.size.count (omega arith) in
    record { there = omega arith; order = omega arith; within = omega arith }
