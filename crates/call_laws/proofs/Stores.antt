-- Document 01, 'Strips', stores and stretches: the part of a lent store that the lent starts cut out for a piece is the piece's strips
-- in its turn, and it is never empty. The store is the pieces' strips one after the other, and each start is the number of strips
-- before, so the cut falls between two pieces. Assumes nothing.
use Rattle.list_laws.proofs.Kit.{◌∙◌, ◌≡◌, ap, ap₂, refl, subst, sym, not, true, ◌↔◌, ◌≢◌, List, [], ◌++◌, append_assoc, map, map-append, ◌*◌, ◌+◌, ◌-◌, ◌<◌}
use Rattle.list_laws.proofs.Kit.{◌≤◌, suc, zero, ℕ, add-zero, le_of_suc-le-suc, not-suc-le-zero, zero-add, arith, ltb, drop, get_or, length, length-append}
use Rattle.list_laws.proofs.Kit.{length-map, take, take-append-drop, drop-append_seam, get_or-take, take-append_seam, lt-ltb, ltb-true, not-false}
use Rattle.model.specs.Buffer.{filled, strip_entry, same_entries}
use Rattle.model.specs.Layout.{Job, turned_piece}
use Rattle.model.specs.Lent.{Lent, job_of, lent_well}
use Rattle.model.specs.Refusal.{Outcome, refused, given}
use Rattle.model.specs.Store.{piece_strips, store_from, starts_from, store, starts, store_well, stretch_in, turn_in}
use Rattle.model.specs.Calls.{Stores, stores_of, stores_well, stores_after, strips_call, stretch_well, stretch_of, turn_list_wrong, stretch_call, stretch_given}
use Rattle.model.specs.Calls.{stretch_number}
use Rattle.model.specs.declared.Refusal.{Refusal}
use Rattle.model.specs.declared.Turn.{Turn}
use Rattle.model.specs.declared.Direction.{Direction}
use Rattle.model.specs.declared.Direction.TheVariants.{Horizontal, Vertical}
use Rattle.list_laws.proofs.Equal.{same_numbers_lem, same_entries_lem, same_numbers_exactly, same_entries_exactly}
use Rattle.list_laws.proofs.Tests.{and_left, and_right, and_both, or_neither, or_none}
use Rattle.job_laws.proofs.Checked.{lent_side_in_range}
use Rattle.text_laws.proofs.Outcomes.{given_unless, unless_given}
use Rattle.call_laws.specs.Stores.{StretchClaims}
use Rattle.call_laws.proofs.Jobs.{lent_strips_some, lent_tight}
use Rattle.call_laws.proofs.Layouts.{job_well}
use Rattle.call_laws.proofs.Refusals.{refused_numbered}
use Rattle.call_laws.specs.Rebuilding.{RebuiltAs}
use Rattle.call_laws.proofs.Rebuilding.{rebuilt_back}

module _ (d : Direction) (j : Job) (ts : List ℕ) where
  -- the first start
  first_start : (at i left : ℕ) → get_or (starts_from d j ts at i left) 0 0 ≡ at
  unfolding starts_from
  first_start at i zero = refl
  first_start at i (suc left) = refl

  -- piece i's strips stand in front of the later pieces' strips
  front : (i left : ℕ) (after : List (List ℕ))
      → map strip_entry (piece_strips d j ts i ++ store_from d j ts (suc i) left) ++ after
      ≡ map strip_entry (piece_strips d j ts i) ++ (map strip_entry (store_from d j ts (suc i) left) ++ after)
  front i left after =
      let here : List (List ℕ) = map strip_entry (piece_strips d j ts i) in
      let rest : List (List ℕ) = map strip_entry (store_from d j ts (suc i) left) in
      ap (λ (x : List (List ℕ)). x ++ after) (map-append strip_entry (piece_strips d j ts i) (store_from d j ts (suc i) left))
      ∙ append_assoc here rest after

  -- starts k and k + 1, counted from piece i on, cut out the strips of piece i + k
  cut : (at i left k : ℕ) (before after : List (List ℕ)) → k < left → length before ≡ at
      → take (get_or (starts_from d j ts at i left) (suc k) 0 - get_or (starts_from d j ts at i left) k 0)
      (drop (get_or (starts_from d j ts at i left) k 0) (before ++ (map strip_entry (store_from d j ts i left) ++ after)))
      ≡ map strip_entry (piece_strips d j ts (i + k))
  unfolding starts_from store_from
  cut at i zero k before after l e = absurd (not-suc-le-zero l)
  cut at i (suc left) zero before after l e =
      let here : List (List ℕ) = map strip_entry (piece_strips d j ts i) in
      let rest : List (List ℕ) = map strip_entry (store_from d j ts (suc i) left) in
      let n : ℕ = length (piece_strips d j ts i) in
      let s : get_or (starts_from d j ts (at + n) (suc i) left) 0 0 ≡ at + n = first_start (at + n) (suc i) left in
      let size : at + n - at ≡ length here = let m = length-map (piece_strips d j ts i) strip_entry in omega arith in
      let rests : drop at (before ++ (map strip_entry (piece_strips d j ts i ++ store_from d j ts (suc i) left) ++ after)) ≡ here ++ (rest ++ after) =
      subst (λ (m : ℕ). drop m (before ++ (map strip_entry (piece_strips d j ts i ++ store_from d j ts (suc i) left) ++ after)) ≡ here ++ (rest ++ after)) e
      (drop-append_seam before _ ∙ front i left after) in
      rw (s, size, rests, add-zero) (take-append_seam here (rest ++ after))
  cut at i (suc left) (suc k) before after l e =
      let here : List (List ℕ) = map strip_entry (piece_strips d j ts i) in
      let rest : List (List ℕ) = map strip_entry (store_from d j ts (suc i) left) in
      let n : ℕ = length (piece_strips d j ts i) in
      let size : length (before ++ here) ≡ at + n =
      length-append before here ∙ (let m = length-map (piece_strips d j ts i) strip_entry in omega arith) in
      let later = cut (at + n) (suc i) left k (before ++ here) after (le_of_suc-le-suc l) size in
      let s : suc i + k ≡ i + suc k = omega arith in
      let whole : before ++ (map strip_entry (piece_strips d j ts i ++ store_from d j ts (suc i) left) ++ after) ≡ (before ++ here) ++ (rest ++ after) =
      ap (λ (x : List (List ℕ)). before ++ x) (front i left after) ∙ sym (append_assoc before here (rest ++ after)) in
      rw (whole, ← s) later

-- the part that the lent starts cut out of a lent store is the piece's strips
pub stretch_strips : (d : Direction) (j : Job) (ts : List ℕ) (entries : List (List ℕ)) (lentStarts : List ℕ) (i : ℕ)
    → store_well d j ts entries lentStarts ≡ true → i < j.size.count → stretch_in entries lentStarts i ≡ map strip_entry (piece_strips d j ts i)
unfolding store_well stretch_in
stretch_strips d j ts entries lentStarts i e l =
    let n : ℕ = length (store d j ts) in
    let begins : take n entries ≡ map strip_entry (store d j ts) = same_entries_lem _ _ (and_left _ _ e) in
    let counted : take (suc j.size.count) lentStarts ≡ starts d j ts =
    same_numbers_lem _ _ (and_right (same_entries (take n entries) (map strip_entry (store d j ts))) _ e) in
    let at : (k : ℕ) → k < suc j.size.count → get_or lentStarts k 0 ≡ get_or (starts d j ts) k 0 =
    λ k b. sym (get_or-take (suc j.size.count) lentStarts k 0 b) ∙ ap (λ (x : List ℕ). get_or x k 0) counted in
    let whole : entries ≡ [] ++ (map strip_entry (store d j ts) ++ drop n entries) =
    sym (take-append-drop n entries) ∙ ap (λ (x : List (List ℕ)). x ++ drop n entries) begins in
    let r = cut d j ts 0 0 j.size.count i [] (drop n entries) l refl in
    ap₂ (λ (x y : ℕ). take (y - x) (drop x entries)) (at i (omega arith)) (at (suc i) (omega arith))
    ∙ ap (λ (x : List (List ℕ)). take (get_or (starts d j ts) (suc i) 0 - get_or (starts d j ts) i 0) (drop (get_or (starts d j ts) i 0) x)) whole
    ∙ (rw zero-add at r)

-- the same, from the row store or the column store
pub stretch_of_lem : (d : Direction) (j : Job) (ts : List ℕ) (lent : Stores) (i : ℕ) → stores_well j ts lent ≡ true → i < j.size.count
    → stretch_of d lent i ≡ map strip_entry (piece_strips d j ts i)
unfolding stores_well
stretch_of_lem Horizontal j ts lent i e l = stretch_strips Horizontal j ts lent.row_strips lent.row_starts i (and_left _ _ e) l
stretch_of_lem Vertical j ts lent i e l =
    stretch_strips Vertical j ts lent.column_strips lent.column_starts i
    (and_right (store_well Horizontal j ts lent.row_strips lent.row_starts) _ e) l

-- ── the stretch call ──

-- it is so, whatever is lent
pub stretch_some : (l : Lent) (ts : List ℕ) (lent : Stores) (i : ℕ) (d : Direction) (part : List (List ℕ))
    → stretch_call l ts lent i d ≡ given part → StretchClaims l ts i d part
unfolding stretch_call job_of piece_strips
stretch_some l ts lent i d part e =
    let u = given_unless _ (stretch_of d lent i) part e in
    let there : i < l.size.count =
    ltb-true i l.size.count (not-false _ (or_neither (turn_list_wrong (job_of l) ts) (not (ltb i l.size.count)) u.none.1.0).1) in
    let are : part ≡ map strip_entry (piece_strips d (job_of l) ts i) =
    sym u.same ∙ stretch_of_lem d (job_of l) ts lent i (not-false (stores_well (job_of l) ts lent) u.none.1.1.0) there in
    let size = length-map (piece_strips d (job_of l) ts i) strip_entry in
    let well : lent_well l ≡ true = job_well l u.none.0 in
    let some = lent_strips_some l well d i (turn_in ts i) there in
    record { well = well; there = there; strips_are = are; some = omega (arith, ap length are) }

-- by what the call comes to
tells_step : (o : Outcome (List (List ℕ))) → ((part : List (List ℕ)) → o ≡ given part → 0 < length part)
    → ((r : Refusal) → o ≡ refused r → r.number ≢ 0) → (length (stretch_given o) ≡ 0) ↔ (stretch_number o ≢ 0)
tells_step (refused r) some numbered = (λ e. numbered r refl, λ n. refl)
tells_step (given part) some numbered = (λ e. absurd (omega (arith, some part refl)), λ n. absurd (n refl))

-- the stretch that is handed out is empty exactly where the second call tells a number
pub stretch_tells : (l : Lent) (ts : List ℕ) (lent : Stores) (i : ℕ) (d : Direction)
    → (length (stretch_given (stretch_call l ts lent i d)) ≡ 0) ↔ (stretch_number (stretch_call l ts lent i d) ≢ 0)
unfolding stretch_call
stretch_tells l ts lent i d =
    tells_step (stretch_call l ts lent i d) (λ part e. (stretch_some l ts lent i d part e).some)
    (λ r e. refused_numbered _ (stretch_of d lent i) r (omega arith, (omega arith, (omega arith, tt))) e)

-- ── from call to call ──

-- there is a start for each piece and one more
starts_length : (d : Direction) (j : Job) (ts : List ℕ) (at i left : ℕ) → length (starts_from d j ts at i left) ≡ suc left
unfolding starts_from
starts_length d j ts at i zero = refl
starts_length d j ts at i (suc left) = ap suc (starts_length d j ts (at + length (piece_strips d j ts i)) (suc i) left)

-- a store and starts over the front of lent ones pass the test
store_filled : (d : Direction) (j : Job) (ts : List ℕ) (entries : List (List ℕ)) (lentStarts : List ℕ)
    → store_well d j ts (filled (map strip_entry (store d j ts)) entries) (filled (starts d j ts) lentStarts) ≡ true
unfolding store_well
store_filled d j ts entries lentStarts =
    let es : List (List ℕ) = map strip_entry (store d j ts) in
    let front_entries_lem : take (length (store d j ts)) (filled es entries) ≡ es =
    subst (λ (n : ℕ). take n (filled es entries) ≡ es) (length-map (store d j ts) strip_entry) (take-append_seam es (drop (length es) entries)) in
    let front-starts : take (suc j.size.count) (filled (starts d j ts) lentStarts) ≡ starts d j ts =
    subst (λ (n : ℕ). take n (filled (starts d j ts) lentStarts) ≡ starts d j ts) (starts_length d j ts 0 0 j.size.count)
    (take-append_seam (starts d j ts) (drop (length (starts d j ts)) lentStarts)) in
    and_both ((same_entries_exactly _ _).1 front_entries_lem) ((same_numbers_exactly _ _).1 front-starts)

-- what the strips call leaves in the lent stores is the job's in these turns
pub strips_given : (l : Lent) (ts : List ℕ) (lent s : Stores) → strips_call l ts lent ≡ given s
    → stores_well (job_of l) ts (stores_after lent (strips_call l ts lent)) ≡ true
unfolding strips_call stores_of stores_well
strips_given l ts lent s e =
    let j : Job = job_of l in
    let u = given_unless _ (stores_of j ts) s e in
    rw (e, ← u.same)
    (and_both (store_filled Horizontal j ts lent.row_strips lent.row_starts)
    (store_filled Vertical j ts lent.column_strips lent.column_starts))

-- so each piece's stretch is handed out of it
pub stretch_after : (l : Lent) (ts : List ℕ) (lent s : Stores) → strips_call l ts lent ≡ given s → (i : ℕ) (d : Direction) → i < l.size.count
    → stretch_call l ts (stores_after lent (strips_call l ts lent)) i d ≡ given (map strip_entry (piece_strips d (job_of l) ts i))
unfolding strips_call stretch_call job_of
stretch_after l ts lent s e i d b =
    let n = (given_unless _ (stores_of (job_of l) ts) s e).none in
    let after : Stores = stores_after lent (strips_call l ts lent) in
    let well : stores_well (job_of l) ts after ≡ true = strips_given l ts lent s e in
    unless_given _ (stretch_of d after i) (n.0, (or_none n.1.0 (ap not (lt-ltb i l.size.count b)), (ap not well, tt)))
    ∙ ap given (stretch_of_lem d (job_of l) ts after i well b)

-- a stretch that is given is taken for the piece in its turn by the no-fit calls
pub stretch_lent : (l : Lent) (ts : List ℕ) (i : ℕ) (d : Direction) (part : List (List ℕ)) → StretchClaims l ts i d part
    → stretch_well d (job_of l) (record { piece = i; turn = turn_in ts i; stretch = part }) ≡ true
unfolding stretch_well piece_strips
stretch_lent l ts i d part c = (same_entries_exactly _ _).1 c.strips_are

-- and is rebuilt as the piece in its turn, box and bytes: pixels become strips and strips the same pixels again
pub stretch_rebuilt : (l : Lent) (ts : List ℕ) (i : ℕ) (d : Direction) (part : List (List ℕ)) (room : ℕ) → StretchClaims l ts i d part
    → (turned_piece (job_of l) i (turn_in ts i)).columns * (turned_piece (job_of l) i (turn_in ts i)).rows ≤ room
    → RebuiltAs d part (turned_piece (job_of l) i (turn_in ts i)) room
unfolding piece_strips
stretch_rebuilt l ts i d part room c space =
    let t : Turn = turn_in ts i in
    rebuilt_back d part (turned_piece (job_of l) i t) room
    (record { columns = refl; rows = refl; is_tight = lent_tight l c.well i t c.there; are = sym c.strips_are })
    (lent_side_in_range l c.well Horizontal i t c.there) (lent_side_in_range l c.well Vertical i t c.there) space
