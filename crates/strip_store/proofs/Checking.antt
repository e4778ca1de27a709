-- A lent store compared piece after piece: what is left of the store and the starts is still to be compared. Assumes nothing.
use Rattle.std.specs.Prelude.{Option, Some, None}
use Rattle.list_laws.proofs.Kit.{◌∙◌, ◌≡◌, ap, ap₂, refl, sym, Bool, ◌&&◌, and_assoc, and-true, false, true, ⊎_elim, List, [], ◌++◌, ◌∷◌, ◌+◌, ◌-◌, ◌<◌, ◌≤◌}
use Rattle.list_laws.proofs.Kit.{suc, ℕ, add-zero, arith, eqb, ltb, drop, drop_of_length-le, get_or, length, length-append, take, drop-cons, le-ltb, lt-ltb}
use Rattle.list_laws.proofs.Kit.{ltb-false, ltb-true}
use Rattle.model.specs.Strip.{Strip, strips}
use Rattle.model.specs.Buffer.{strip_entry, same_numbers, same_entries}
use Rattle.model.specs.Layout.{Job, turned_piece}
use Rattle.model.specs.Store.{turn_in, piece_strips, store_from, starts_from, store, store_well}
use Rattle.model.specs.declared.Turn.{Turn}
use Rattle.model.specs.declared.Direction.{Direction}
use Rattle.list_laws.proofs.Tests.{decided}
use Rattle.strip_scan.specs.Compare.{stand_in, compared_by, compared}
use Rattle.strip_scan.proofs.Comparing.{stand_step}

-- ── strips and starts in a row ──

-- strips in a row stand in a store where the first ones do and the others behind them do
stand_append : (ts us : List Strip) (entries : List (List ℕ)) (at : ℕ)
    → stand_in (ts ++ us) entries at ≡ (stand_in ts entries at && stand_in us entries (at + length ts))
unfolding same_entries
stand_append [] us entries at = ap (stand_in us entries) (sym (add-zero at))
stand_append (t ∷ ts) us entries at =
    let q : (at + 1) + length ts ≡ at + suc (length ts) = omega arith in
    stand_step t (ts ++ us) entries at
    ∙ ap (λ b. same_numbers (get_or entries at []) (strip_entry t) && b)
    (stand_append ts us entries (at + 1) ∙ ap (λ k. stand_in ts entries (at + 1) && stand_in us entries k) q)
    ∙ sym (and_assoc (same_numbers (get_or entries at []) (strip_entry t)) _ _)
    ∙ ap (λ b. b && stand_in us entries (at + suc (length ts))) (sym (stand_step t ts entries at))

-- a start is there and is the place
abbrev pub start_is : List ℕ → ℕ → ℕ → Bool
start_is lent i at = ltb i (length lent) && eqb (get_or lent i 0) at

-- the starts from i on are the given ones where the first is and those behind it are
starts_in : (lent : List ℕ) (i at n : ℕ) (rest : List ℕ) → i < length lent
    → same_numbers (take (suc n) (drop i lent)) (at ∷ rest) ≡ (start_is lent i at && same_numbers (take n (drop (i + 1) lent)) rest)
unfolding same_numbers
starts_in lent i at n rest h = let q : i + 1 ≡ suc i = omega arith in rw (drop-cons lent i 0 h, q, lt-ltb i (length lent) h)

starts_out : (lent : List ℕ) (i at n : ℕ) (rest : List ℕ) → length lent ≤ i
    → same_numbers (take (suc n) (drop i lent)) (at ∷ rest) ≡ (start_is lent i at && same_numbers (take n (drop (i + 1) lent)) rest)
unfolding same_numbers
starts_out lent i at n rest h = rw (drop_of_length-le lent h, le-ltb i (length lent) h)

starts_step : (lent : List ℕ) (i at n : ℕ) (rest : List ℕ)
    → same_numbers (take (suc n) (drop i lent)) (at ∷ rest) ≡ (start_is lent i at && same_numbers (take n (drop (i + 1) lent)) rest)
starts_step lent i at n rest =
    ⊎_elim (λ h. starts_in lent i at n rest (ltb-true i (length lent) h)) (λ h. starts_out lent i at n rest (ltb-false i (length lent) h))
    (decided (ltb i (length lent)))

-- ── what is left to compare ──

-- what is left of the store stands in the lent store from `at` on, and what is left of the starts in the lent ones from i on
abbrev pub left_well : Direction → Job → List ℕ → List (List ℕ) → List ℕ → ℕ → ℕ → ℕ → Bool
left_well d j ts entries lent at i left =
    stand_in (store_from d j ts i left) entries at && same_numbers (take (suc left) (drop i lent)) (starts_from d j ts at i left)

-- comparing what is left decides whether the lent store is the job's
pub record Checking (d : Direction) (j : Job) (ts : List ℕ) (entries : List (List ℕ)) (lent : List ℕ) (at i left : ℕ) : Type 0 where
  pub counted : at + length (store_from d j ts i left) ≡ length (store d j ts)
  pub decides : left_well d j ts entries lent at i left ≡ store_well d j ts entries lent

-- at first all is left
pub check_start : (d : Direction) (j : Job) (ts : List ℕ) (entries : List (List ℕ)) (lent : List ℕ) → Checking d j ts entries lent 0 0 (j.size.count - 0)
unfolding store_well
check_start d j ts entries lent =
    let e : j.size.count - 0 ≡ j.size.count = omega arith in
    rw e (record { counted = omega arith; decides = refl })

reorder : (a b c e : Bool) → ((a && b) && (c && e)) ≡ (c && (a && (b && e)))
reorder true b true e = refl
reorder true true false e = refl
reorder true false false e = refl
reorder false b true e = refl
reorder false b false e = refl

-- what is left is the piece's start, its strips, and what comes behind
left_step : (d : Direction) (j : Job) (ts : List ℕ) (entries : List (List ℕ)) (lent : List ℕ) (at i n : ℕ) → i < n
    → left_well d j ts entries lent at i (n - i)
    ≡ (start_is lent i at && (stand_in (piece_strips d j ts i) entries at
    && left_well d j ts entries lent (at + length (piece_strips d j ts i)) (i + 1) (n - (i + 1))))
unfolding store_from starts_from
left_step d j ts entries lent at i n l =
    let q : i + 1 ≡ suc i = omega arith in
    let e : n - i ≡ suc (n - suc i) = omega arith in
    let here : List Strip = piece_strips d j ts i in
    let rest : List Strip = store_from d j ts (suc i) (n - suc i) in
    let next : List ℕ = starts_from d j ts (at + length here) (suc i) (n - suc i) in
    rw (e, q)
    (ap₂ ◌&&◌ (stand_append here rest entries at)
    (starts_step lent i at (suc (n - suc i)) next ∙ ap (λ k. start_is lent i at && same_numbers (take (suc (n - suc i)) (drop k lent)) next) q)
    ∙ reorder (stand_in here entries at) _ (start_is lent i at) _)

-- a start that is not the piece's
pub check_start_wrong : {d : Direction} {j : Job} {ts : List ℕ} {entries : List (List ℕ)} {lent : List ℕ} {at i : ℕ} (n : ℕ) → i < n
    → start_is lent i at ≡ false → Checking d j ts entries lent at i (n - i) → false ≡ store_well d j ts entries lent
check_start_wrong {d} {j} {ts} {entries} {lent} {at} {i} n l s c = sym (rw s at (left_step d j ts entries lent at i n l)) ∙ c.decides

-- strips that are not the piece's
pub check_unlike : {d : Direction} {j : Job} {ts : List ℕ} {entries : List (List ℕ)} {lent : List ℕ} {at i : ℕ} (n : ℕ) → i < n
    → start_is lent i at ≡ true → stand_in (piece_strips d j ts i) entries at ≡ false → Checking d j ts entries lent at i (n - i)
    → false ≡ store_well d j ts entries lent
check_unlike {d} {j} {ts} {entries} {lent} {at} {i} n l s p c = sym (rw (s, p) at (left_step d j ts entries lent at i n l)) ∙ c.decides

-- the piece's start and strips
pub check_step : {d : Direction} {j : Job} {ts : List ℕ} {entries : List (List ℕ)} {lent : List ℕ} {at i next : ℕ} (n : ℕ) → i < n
    → start_is lent i at ≡ true → stand_in (piece_strips d j ts i) entries at ≡ true → next ≡ at + length (piece_strips d j ts i)
    → Checking d j ts entries lent at i (n - i) → Checking d j ts entries lent next (i + 1) (n - (i + 1))
unfolding store_from
check_step {d} {j} {ts} {entries} {lent} {at} {i} {next} n l s p e c =
    let q : i + 1 ≡ suc i = omega arith in
    let k : n - i ≡ suc (n - suc i) = omega arith in
    let m : at + length (piece_strips d j ts i ++ store_from d j ts (suc i) (n - suc i)) ≡ length (store d j ts) = rw k at c.counted in
    let o = length-append (piece_strips d j ts i) (store_from d j ts (suc i) (n - suc i)) in
    rw e
    (record {
      counted = rw q (omega arith);
      decides = sym (rw (s, p) at (left_step d j ts entries lent at i n l)) ∙ c.decides;
    })

-- only the last start, the total, is left
pub check_end : {d : Direction} {j : Job} {ts : List ℕ} {entries : List (List ℕ)} {lent : List ℕ} {at i : ℕ} (n : ℕ) → i ≡ n
    → Checking d j ts entries lent at i (n - i) → start_is lent n at ≡ store_well d j ts entries lent
unfolding store_from starts_from same_numbers same_entries
check_end {d} {j} {ts} {entries} {lent} {at} {i} n q c =
    let e : n - i ≡ 0 = omega arith in
    ap (λ k. start_is lent k at) (sym q) ∙ sym (starts_step lent i at 0 [] ∙ and-true (start_is lent i at)) ∙ (rw e at c.decides)

-- what a comparison that went through says
pub some_from : (ts : List Strip) (entries : List (List ℕ)) (at end : ℕ) → Some end ≡ compared ts entries at
    → (stand_in ts entries at ≡ true) × (end ≡ at + length ts)
unfolding compared
some_from ts entries at end e = go (stand_in ts entries at) e
  where
    go : (b : Bool) → Some end ≡ compared_by b (at + length ts) → (b ≡ true) × (end ≡ at + length ts)
    go true h = (refl, (cc))
    go false h = absurd (cc)

-- and one that did not
pub none_from : (ts : List Strip) (entries : List (List ℕ)) (at : ℕ) → None ≡ compared ts entries at → stand_in ts entries at ≡ false
unfolding compared
none_from ts entries at e = go (stand_in ts entries at) e
  where
    go : (b : Bool) → None ≡ compared_by b (at + length ts) → b ≡ false
    go true h = absurd (cc)
    go false h = refl

-- the strips of a piece in the turn that the list has for it are its stretch
pub stretch_compared : (d : Direction) (j : Job) (ts : List ℕ) (i at : ℕ) {t : Turn} (entries : List (List ℕ)) {r : Option ℕ} → t ≡ turn_in ts i
    → r ≡ compared (strips d (turned_piece j i t)) entries at → r ≡ compared (piece_strips d j ts i) entries at
unfolding piece_strips
stretch_compared d j ts i at entries e h = h ∙ ap (λ u. compared (strips d (turned_piece j i u)) entries at) e
