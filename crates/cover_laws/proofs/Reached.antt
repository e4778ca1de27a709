-- Document 01, 'When a call says no', refusal 8 of lay and withdraw: counts or a record that no list of calls gives. The test
-- `sheet_well` passes exactly the sheets that some list of calls from a fresh one gives. Such sheets are sound, and the test asks just
-- that; the other way, laying the laid pieces one after another, from piece 0 on, gives a sound sheet with the same entries, and
-- sound sheets with the same entries are the same. Assumes nothing.
use Rattle.list_laws.proofs.Kit.{◌∙◌, ◌≡◌, ap, refl, subst, sym, Bool, ◌&&◌, false, false≢true, not, true, ◌↔◌, ◌≢◌, ◌⊎◌, inl, inr, ⊎_elim, List, [], ◌++◌}
use Rattle.list_laws.proofs.Kit.{◌∷◌, ◌*◌, ◌<◌, ◌≤◌, suc, zero, ℕ, eq-or-lt_of_le, le_of_suc-le-suc, le_refl, not-suc-le-zero, arith, eqb, ltb}
use Rattle.list_laws.proofs.Kit.{get_or-eq_default, get_or, length, ext_get_or, eq-eqb, eqb-false, eqb-true, lt-ltb, ltb-false, ltb-true, not-true}
use Rattle.model.specs.Bounded.{all_below}
use Rattle.model.specs.Piece.{degrees}
use Rattle.model.specs.Layout.{Job, allowed, inside}
use Rattle.model.specs.Lent.{piece_bound}
use Rattle.model.specs.Cover.{Sheet, blank, laid_at, entry_in, fresh, lay, withdraw}
use Rattle.model.specs.Cover.{Call, laying, after_calls, laid_count, is_blank, entry_well, sheet_well}
use Rattle.model.specs.declared.Turn.{Turn}
use Rattle.model.specs.declared.Turn.TheVariants.{Zero, Quarter, Half, ThreeQuarters}
use Rattle.model.specs.declared.Placement.{Placement}
use Rattle.model.specs.declared.Entry.{Entry}
use Rattle.list_laws.proofs.Bounded.{all_at, all_from}
use Rattle.list_laws.proofs.Tests.{and_left, and_right, and_both, or_cases, or_right, clash, decided}
use Rattle.cover_laws.proofs.Calls.{LayTaken, Lies, lay_taken, calls_append}
use Rattle.cover_laws.proofs.Counts.{Sound, LaidWell, lay_entry, lay_others, withdraw_entry, withdraw_others, lay_sound, withdraw_sound, fresh_entry}
use Rattle.cover_laws.proofs.Counts.{reached_sound, same_count}

-- ── the test of a sheet ──

-- where a test of four parts passes, each part does
and_four : (a b c d : Bool) → (a && b && c && d) ≡ true → (a ≡ true) × (b ≡ true) × (c ≡ true) × (d ≡ true)
and_four a b c d h =
    let abc : (a && b && c) ≡ true = and_left (a && b && c) d h in
    let ab : (a && b) ≡ true = and_left (a && b) c abc in
    (and_left a b ab, and_right a b ab, and_right (a && b) c abc, and_right (a && b && c) d h)

-- where each of four parts passes, the test does
four_and : {a b c d : Bool} → a ≡ true → b ≡ true → c ≡ true → d ≡ true → (a && b && c && d) ≡ true
four_and p q r s = and_both (and_both (and_both p q) r) s

-- only turn 0 has 0 degrees
zero_turn : (t : Turn) → eqb (degrees t) 0 ≡ true → t ≡ Zero
zero_turn Zero e = refl
zero_turn Quarter e = absurd (false≢true e)
zero_turn Half e = absurd (false≢true e)
zero_turn ThreeQuarters e = absurd (false≢true e)

-- an entry that passes the test for blank is blank
pub is_blank_lem : (e : Entry) → is_blank e ≡ true → e ≡ blank
unfolding is_blank
is_blank_lem e h =
    let parts = and_four (not e.laid) (eqb (degrees e.place.turn) 0) (eqb e.place.x.0 0) (eqb e.place.y.0 0) h in
    let laid : e.laid ≡ false = not-true e.laid parts.0 in
    let turn : e.place.turn ≡ Zero = zero_turn e.place.turn parts.1 in
    let x : e.place.x.0 ≡ 0 = eqb-true e.place.x.0 0 parts.2 in
    let y : e.place.y.0 ≡ 0 = eqb-true e.place.y.0 0 parts.3 in
    λ i. record { laid = laid i; place = record { turn = turn i; x = record { 0 = x i }; y = record { 0 = y i } } }

-- a laid entry is `laid_at` its placement
pub is_laid : (e : Entry) → e.laid ≡ true → laid_at e.place ≡ e
is_laid e h = λ i. record { laid = sym h i; place = e.place }

-- an entry that passes its test is blank or laid well
pub entry_sound : (j : Job) (es : List Entry) (i : ℕ) → entry_well j es i ≡ true → (entry_in es i ≡ blank) ⊎ LaidWell j i (entry_in es i)
unfolding entry_well
entry_sound j es i h =
    let e = entry_in es i in
    let here = ltb i j.size.count in
    let turn = allowed j i e.place.turn in
    let within = inside j i e.place in
    ⊎_elim (λ q. inl (is_blank_lem e q))
    (λ q.
    let parts = and_four e.laid here turn within q in
    inr (record { laid = parts.0; piece = ltb-true i j.size.count parts.1; turn = parts.2; within = parts.3 }))
    (or_cases (is_blank e) (e.laid && here && turn && within) h)

-- an entry that is blank or laid well passes its test
pub entry_well_lem : (j : Job) (es : List Entry) (i : ℕ) → (entry_in es i ≡ blank) ⊎ LaidWell j i (entry_in es i) → entry_well j es i ≡ true
unfolding entry_well is_blank
entry_well_lem j es i (inl e) = rw e
entry_well_lem j es i (inr w) =
    or_right (is_blank (entry_in es i)) _ (four_and w.laid (lt-ltb i j.size.count w.piece) w.turn w.within)

-- a sheet that passes the test is sound
pub well_sound : (j : Job) (s : Sheet) → sheet_well j s ≡ true → Sound j s
unfolding sheet_well
well_sound j s h =
    let parts =
    and_four (eqb (length s.pieces) piece_bound) (all_below piece_bound (entry_well j s.pieces))
    (eqb (length s.counts) (j.size.rows * j.size.columns))
    (all_below (j.size.rows * j.size.columns) (λ k. eqb (get_or s.counts k 0) (laid_count j s.pieces k))) h
    in
    let pieces : length s.pieces ≡ piece_bound = eqb-true (length s.pieces) piece_bound parts.0 in
    record {
      pieces = pieces;
      counts = eqb-true (length s.counts) (j.size.rows * j.size.columns) parts.2;
      entry = λ i.
          ⊎_elim
          (λ l. entry_sound j s.pieces i (all_at piece_bound (entry_well j s.pieces) parts.1 i (ltb-true i piece_bound l)))
          (λ l. inl (get_or-eq_default s.pieces blank (let l' = ltb-false i piece_bound l in omega arith)))
          (decided (ltb i piece_bound));
      count = λ k l.
          eqb-true (get_or s.counts k 0) (laid_count j s.pieces k)
          (all_at (j.size.rows * j.size.columns) (λ m. eqb (get_or s.counts m 0) (laid_count j s.pieces m)) parts.3 k l);
    }

-- a sound sheet passes the test
pub sound_well : (j : Job) (s : Sheet) → Sound j s → sheet_well j s ≡ true
unfolding sheet_well
sound_well j s sound =
    four_and (eq-eqb (length s.pieces) piece_bound sound.pieces)
    (all_from piece_bound (entry_well j s.pieces) (λ i l. entry_well_lem j s.pieces i (sound.entry i)))
    (eq-eqb (length s.counts) (j.size.rows * j.size.columns) sound.counts)
    (all_from (j.size.rows * j.size.columns) (λ k. eqb (get_or s.counts k 0) (laid_count j s.pieces k))
    (λ k l. eq-eqb (get_or s.counts k 0) (laid_count j s.pieces k) (sound.count k l)))

-- ── sound sheets with the same entries ──

-- sound sheets with the same entries are the same: the counts follow from the entries
pub same_sheet : (j : Job) (s t : Sheet) → Sound j s → Sound j t → ((i : ℕ) → entry_in s.pieces i ≡ entry_in t.pieces i) → s ≡ t
same_sheet j s t a b same =
    let pieces : s.pieces ≡ t.pieces = ext_get_or blank s.pieces t.pieces (a.pieces ∙ sym b.pieces) (λ i l. same i) in
    let counts : s.counts ≡ t.counts =
    ext_get_or 0 s.counts t.counts (a.counts ∙ sym b.counts)
    (λ k l.
    let l' : k < j.size.rows * j.size.columns = let e = a.counts in omega arith in
    a.count k l' ∙ same_count j s.pieces t.pieces k (λ i _. same i) ∙ sym (b.count k l'))
    in
    λ i. record { pieces = pieces i; counts = counts i }

-- ── a list of calls that gives a sheet ──

-- the lays of the laid pieces below n, from piece 0 on
unfoldable pub lay_calls : List Entry → ℕ → List Call
lay_calls es zero = []
lay_calls es (suc n) = lay_calls es n ++ elim (entry_in es n).laid [ true ↦ laying n (entry_in es n).place ∷ [] | false ↦ [] ]

-- a sheet where the pieces below n have the given entries and the others are blank
pub record LaidBelow (es : List Entry) (n : ℕ) (t : Sheet) : Type 0 where
  pub below : (k : ℕ) → k < n → entry_in t.pieces k ≡ entry_in es k
  pub above : (k : ℕ) → n ≤ k → entry_in t.pieces k ≡ blank

-- one piece more
laid_one_more : (es : List Entry) (n : ℕ) (t t' : Sheet) → LaidBelow es n t → entry_in t'.pieces n ≡ entry_in es n
    → ((k : ℕ) → k ≢ n → entry_in t'.pieces k ≡ entry_in t.pieces k) → LaidBelow es (suc n) t'
laid_one_more es n t t' known here others =
    record {
      below = λ k l.
          ⊎_elim (λ (e : k ≡ n). subst (λ (m : ℕ). entry_in t'.pieces m ≡ entry_in es m) (sym e) here)
          (λ (l' : k < n). others k (omega arith) ∙ known.below k l') (eq-or-lt_of_le (le_of_suc-le-suc l));
      above = λ k l. others k (omega arith) ∙ known.above k (omega arith);
    }

module _ (j : Job) (few : j.size.count ≤ piece_bound) where
  -- the calls of one more piece
  laid_step : (es : List Entry) (n : ℕ) (t : Sheet) (b : Bool) → (entry_in es n).laid ≡ b → (entry_in es n ≡ blank) ⊎ LaidWell j n (entry_in es n)
      → Sound j t → LaidBelow es n t
      → LaidBelow es (suc n)
      (after_calls j t (elim b as (λ _. List Call) [ true ↦ laying n (entry_in es n).place ∷ [] | false ↦ [] ]))
  unfolding after_calls
  laid_step es n t true e (inl q) sound known = absurd (clash e (ap (λ (x : Entry). x.laid) q))
  laid_step es n t true e (inr w) sound known =
      let free : (entry_in t.pieces n).laid ≡ false = ap (λ (x : Entry). x.laid) (known.above n (le_refl n)) in
      let p = (entry_in es n).place in
      let order : LayTaken j t n p = record { piece = w.piece; turn = w.turn; free = free; within = w.within } in
      rw (lay_taken j t n p order)
      (laid_one_more es n t (lay j t n p) known (lay_entry j few t n p sound w.piece ∙ is_laid (entry_in es n) e) (lay_others j t n p))
  laid_step es n t false e (inl q) sound known =
      laid_one_more es n t t known (known.above n (le_refl n) ∙ sym q) (λ k ne. refl)
  laid_step es n t false e (inr w) sound known = absurd (clash w.laid e)

  -- the lays below n give the entries below n
  lays_give : (s : Sheet) → Sound j s → (n : ℕ) → LaidBelow s.pieces n (after_calls j (fresh j) (lay_calls s.pieces n))
  unfolding lay_calls after_calls
  lays_give s sound zero = record { below = λ k l. absurd (not-suc-le-zero l); above = λ k l. fresh_entry j k }
  lays_give s sound (suc n) =
      rw (calls_append j (fresh j) (lay_calls s.pieces n)
      (elim (entry_in s.pieces n).laid [ true ↦ laying n (entry_in s.pieces n).place ∷ [] | false ↦ [] ]))
      (laid_step s.pieces n (after_calls j (fresh j) (lay_calls s.pieces n)) (entry_in s.pieces n).laid refl (sound.entry n)
      (reached_sound j few (lay_calls s.pieces n)) (lays_give s sound n))

  -- laying its laid pieces, from piece 0 on, gives a sound sheet
  pub sound_reached : (s : Sheet) → Sound j s → after_calls j (fresh j) (lay_calls s.pieces piece_bound) ≡ s
  sound_reached s sound =
      let known = lays_give s sound piece_bound in
      same_sheet j (after_calls j (fresh j) (lay_calls s.pieces piece_bound)) s (reached_sound j few (lay_calls s.pieces piece_bound)) sound
      (λ i.
      ⊎_elim (λ l. known.below i (ltb-true i piece_bound l))
      (λ l.
      let l' = ltb-false i piece_bound l in
      known.above i l' ∙ sym (get_or-eq_default s.pieces blank (let e = sound.pieces in omega arith)))
      (decided (ltb i piece_bound)))

  -- exactly the sheets that some list of calls gives pass the test for refusal 8
  pub well_exactly : (s : Sheet) → (sheet_well j s ≡ true) ↔ ((cs : List Call) × (after_calls j (fresh j) cs ≡ s))
  well_exactly s = (
    (λ h. (lay_calls s.pieces piece_bound, sound_reached s (well_sound j s h))),
    (λ r. sound_well j s (subst (λ (t : Sheet). Sound j t) r.1 (reached_sound j few r.0))),
  )

  -- laying a piece and at once withdrawing it gives the same sheet back
  pub lay_withdraw : (s : Sheet) (i : ℕ) (p : Placement) → Sound j s → LayTaken j s i p → withdraw j (lay j s i p) i ≡ s
  lay_withdraw s i p sound t =
      let laid : Sound j (lay j s i p) = lay_sound j few s i p sound t in
      let here : entry_in (lay j s i p).pieces i ≡ laid_at p = lay_entry j few s i p sound t.piece in
      let order : Lies j (lay j s i p) i = record { piece = t.piece; laid = ap (λ (e : Entry). e.laid) here } in
      let free : entry_in s.pieces i ≡ blank =
      ⊎_elim (λ e. e) (λ w. absurd (clash w.laid t.free)) (sound.entry i)
      in
      same_sheet j (withdraw j (lay j s i p) i) s (withdraw_sound j few (lay j s i p) i laid order) sound
      (λ k.
      ⊎_elim
      (λ q.
      subst (λ (m : ℕ). entry_in (withdraw j (lay j s i p) i).pieces m ≡ entry_in s.pieces m) (sym (eqb-true k i q))
      (withdraw_entry j few (lay j s i p) i laid t.piece ∙ sym free))
      (λ q. withdraw_others j (lay j s i p) i k (eqb-false k i q) ∙ lay_others j s i p k (eqb-false k i q)) (decided (eqb k i)))
