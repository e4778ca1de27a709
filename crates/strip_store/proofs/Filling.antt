-- Stores filled piece after piece: what is left of the store and the starts is still to be stored, and no store is larger than the
-- boxes. Assumes nothing.
use Rattle.list_laws.proofs.Kit.{◌∙◌, ◌≡◌, ap, ap₂, refl, subst, sym, false, not, true, ⊎_elim, List, ◌++◌, map, map-append, ◌+◌, ◌-◌, ◌<◌, ◌≤◌, suc, zero, ℕ}
use Rattle.list_laws.proofs.Kit.{arith, ltb, length, length-append, length-map, set, sets, eqb-true, le-ltb, lt-ltb, ltb-false, ltb-true}
use Rattle.list_laws.proofs.Kit.{not-false}
use Rattle.model.specs.Strip.{Strip, strips}
use Rattle.model.specs.Buffer.{strip_entry}
use Rattle.model.specs.Layout.{Job, turned_piece}
use Rattle.model.specs.Lent.{Lent, job_of, lent_shape, lent_well, pixel_start}
use Rattle.model.specs.Store.{turn_in, piece_strips, store_from, starts_from, store, starts}
use Rattle.model.specs.Calls.{turn_list_wrong}
use Rattle.model.specs.declared.Turn.{Turn}
use Rattle.model.specs.declared.Direction.{Direction}
use Rattle.list_laws.proofs.Stores.{sets_append}
use Rattle.list_laws.proofs.Tests.{or_neither, decided}
use Rattle.job_laws.proofs.Checked.{facts}
use Rattle.strip_scan.specs.Put.{Appended}
use Rattle.strip_scan.proofs.Counts.{strips_few}
use Rattle.strip_store.specs.Made.{StoreReady, StoreFilled}
use Rattle.strip_store.specs.Rooms.{store_fits}
use Rattle.strip_store.specs.declared.fill.Room.{Room}

-- ── how many strips ──

-- there are no more strips than pixels of the boxes
pub store_few : (d : Direction) (l : Lent) (ts : List ℕ) (i left : ℕ)
    → pixel_start l.table i + length (store_from d (job_of l) ts i left) ≤ pixel_start l.table (i + left)
unfolding store_from piece_strips job_of pixel_start
store_few d l ts i zero = let e : i + 0 ≡ i = omega arith in rw e (omega arith)
store_few d l ts i (suc left) =
    let one = strips_few d (turn_in ts i) (lent_shape l i) in
    let rest = store_few d l ts (suc i) left in
    let e : suc i + left ≡ i + suc left = omega arith in
    let more = rw e at rest in
    simp length-append (omega arith)

-- one start more than pieces
pub starts_length : (d : Direction) (j : Job) (ts : List ℕ) (at i left : ℕ) → length (starts_from d j ts at i left) ≡ suc left
unfolding starts_from
starts_length d j ts at i zero = refl
starts_length d j ts at i (suc left) = ap suc (starts_length d j ts (at + length (piece_strips d j ts i)) (suc i) left)

-- ── what is left to store ──

-- storing what is left of the store from `at` on and of the starts from i on gives what storing all of them gave at first
pub record Filling (d : Direction) (j : Job) (ts : List ℕ) (strips₀ : List (List ℕ)) (starts₀ : List ℕ) (strips₁ : List (List ℕ)) (starts₁ : List ℕ)
    (at i left : ℕ) : Type 0 where
  pub counted : at + length (store_from d j ts i left) ≡ length (store d j ts)
  pub stored : sets strips₁ at (map strip_entry (store_from d j ts i left)) ≡ sets strips₀ 0 (map strip_entry (store d j ts))
  pub started : sets starts₁ i (starts_from d j ts at i left) ≡ sets starts₀ 0 (starts d j ts)

-- at first all is left
pub fill_start : (d : Direction) (j : Job) (ts : List ℕ) (strips₀ : List (List ℕ)) (starts₀ : List ℕ)
    → Filling d j ts strips₀ starts₀ strips₀ starts₀ 0 0 (j.size.count - 0)
fill_start d j ts strips₀ starts₀ =
    let e : j.size.count - 0 ≡ j.size.count = omega arith in
    rw e (record { counted = omega arith; stored = refl; started = refl })

-- a piece's start and strips are stored
pub fill_step : {d : Direction} {j : Job} {ts : List ℕ} {strips₀ strips₁ strips₂ : List (List ℕ)} {starts₀ starts₁ : List ℕ} {at next i : ℕ}
    → (n : ℕ) → i < n → Appended (piece_strips d j ts i) strips₁ at strips₂ next → Filling d j ts strips₀ starts₀ strips₁ starts₁ at i (n - i)
    → Filling d j ts strips₀ starts₀ strips₂ (set starts₁ i at) next (i + 1) (n - (i + 1))
unfolding store_from starts_from
fill_step {d} {j} {ts} {strips₀} {strips₁} {strips₂} {starts₀} {starts₁} {at} {next} {i} n l p f =
    let q : i + 1 ≡ suc i = omega arith in
    let e : n - i ≡ suc (n - suc i) = omega arith in
    let here : List Strip = piece_strips d j ts i in
    let rest : List Strip = store_from d j ts (suc i) (n - suc i) in
    let size : length (map strip_entry here) ≡ length here = length-map here strip_entry in
    let c : at + length (here ++ rest) ≡ length (store d j ts) = rw e at f.counted in
    let m : length (here ++ rest) ≡ length here + length rest = length-append here rest in
    let s : sets strips₁ at (map strip_entry (here ++ rest)) ≡ sets strips₀ 0 (map strip_entry (store d j ts)) = rw e at f.stored in
    let t : sets (set starts₁ i at) (suc i) (starts_from d j ts (at + length here) (suc i) (n - suc i)) ≡ sets starts₀ 0 (starts d j ts) =
    rw e at f.started in
    let end : next ≡ at + length here = p.end in
    rw q
    (record {
      counted = omega arith;
      stored =
          ap₂ (λ (x : List (List ℕ)) (k : ℕ). sets x k (map strip_entry rest)) p.stored (end ∙ ap (λ k. at + k) (sym size))
          ∙ sym (sets_append strips₁ at (map strip_entry here) (map strip_entry rest))
          ∙ ap (sets strips₁ at) (sym (map-append strip_entry here rest)) ∙ s;
      started = rw end t;
    })

-- no piece is left, and the last start, the total, is stored
pub fill_end : {d : Direction} {j : Job} {ts : List ℕ} {strips₀ strips₁ : List (List ℕ)} {starts₀ starts₁ : List ℕ} {at i : ℕ}
    → (n : ℕ) → i ≡ n → Filling d j ts strips₀ starts₀ strips₁ starts₁ at i (n - i) → StoreFilled d j ts strips₀ starts₀ strips₁ (set starts₁ n at) at
unfolding store_from starts_from
fill_end {d} {j} {ts} {strips₀} {strips₁} {starts₀} {starts₁} {at} {i} n q f =
    let e : n - i ≡ 0 = omega arith in
    let c : at + 0 ≡ length (store d j ts) = rw e at f.counted in
    record { all = omega arith; stored = rw e at f.stored; started = ap (λ k. set starts₁ k at) (sym q) ∙ (rw e at f.started) }

-- ── room ──

-- a store that is shorter than what is needed has no room
pub no_room : (d : Direction) (j : Job) (ts : List ℕ) (room : Room) {total : ℕ} → total ≡ length (store d j ts) → room.strips < total
    → false ≡ store_fits d j ts room
no_room d j ts room e h = rw (lt-ltb room.strips (length (store d j ts)) (omega arith))

-- n + 1 starts have room where there are more than n
room_above : (n k : ℕ) → ltb n k ≡ not (ltb k (suc n))
room_above n k =
    ⊎_elim (λ h. h ∙ ap not (sym (le-ltb k (suc n) (ltb-true n k h))))
    (λ h. let l = ltb-false n k h in h ∙ ap not (sym (lt-ltb k (suc n) (omega arith)))) (decided (ltb n k))

-- a store that is long enough has room where there are more starts than pieces
pub room_by_starts : (d : Direction) (j : Job) (ts : List ℕ) (room : Room) {total : ℕ} → total ≡ length (store d j ts) → total ≤ room.strips
    → ltb j.size.count room.starts ≡ store_fits d j ts room
room_by_starts d j ts room e h =
    rw (le-ltb room.strips (length (store d j ts)) (omega arith), starts_length d j ts 0 0 j.size.count) (room_above j.size.count room.starts)

-- ── what a job that passes its check gives ──

-- its store is small
pub store_small : (d : Direction) (l : Lent) (ts : List ℕ) → lent_well l ≡ true → length (store d (job_of l) ts) ≤ 65536
unfolding job_of
store_small d l ts e =
    let h = store_few d l ts 0 l.size.count in
    let z : 0 + l.size.count ≡ l.size.count = omega arith in
    let k = rw z at h in
    let a = (facts l e).areas in
    omega arith

-- with right turns its strips can be made
pub made_ready : (l : Lent) (ts : List ℕ) → lent_well l ≡ true → turn_list_wrong (job_of l) ts ≡ false → StoreReady l ts
unfolding turn_list_wrong job_of
made_ready l ts e w = record { well = e; turns = eqb-true (length ts) l.size.count (not-false _ (or_neither _ _ w).0) }

-- the strips of a piece in the turn that the list has for it are its stretch
pub appended_piece : (d : Direction) (j : Job) (ts : List ℕ) (i : ℕ) {t : Turn} {before after : List (List ℕ)} {at next : ℕ} → t ≡ turn_in ts i
    → Appended (strips d (turned_piece j i t)) before at after next → Appended (piece_strips d j ts i) before at after next
unfolding piece_strips
appended_piece d j ts i {t} {before} {after} {at} {next} e p = subst (λ u. Appended (strips d (turned_piece j i u)) before at after next) e p
