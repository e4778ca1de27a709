-- How stretches are kept apart: a new one goes behind all others, and where there is no room all are given up. Assumes nothing.
use Rattle.list_laws.proofs.Kit.{◌∙◌, ◌≡◌, refl, sym, ◌⊎◌, inl, inr, ⊎_elim, List, ◌*◌, ◌+◌, ◌/◌, ◌%◌, ◌<◌, ◌≤◌, ℕ, arith, get_or, length, set}
use Rattle.list_laws.proofs.Kit.{length-set, get_or-set_other, get_or-set_same, ℕ_discrete}
use Rattle.list_laws.proofs.Numbers.{below_or}
use Rattle.search_line_store.specs.Store.{short_at, first_unit, units_of, used_of, table_end, begin_of, Stretches, ShortPut, GivenUp, Free, Claimed}

-- ── two bytes ──

-- a number below 65,536 that is put byte by byte
pub short_put : (bytes : List ℕ) (at number : ℕ) → at + 2 ≤ length bytes
    → ShortPut number at bytes (set (set bytes at (number % 256)) (at + 1) (number / 256))
short_put bytes at number room =
    let one : List ℕ = set bytes at (number % 256) in
    let low : get_or (set one (at + 1) (number / 256)) at 0 ≡ number % 256 =
    get_or-set_other one (at + 1) at _ 0 (λ z. omega arith) ∙ get_or-set_same bytes at _ 0 (omega arith) in
    let high : get_or (set one (at + 1) (number / 256)) (at + 1) 0 ≡ number / 256 = get_or-set_same one (at + 1) _ 0 (simp length-set (omega arith)) in
    let whole : number % 256 + number / 256 * 256 ≡ number = omega arith in
    record {
      same = simp length-set;
      is = omega arith;
      before = λ k l. get_or-set_other one (at + 1) k _ 0 (λ z. omega arith) ∙ get_or-set_other bytes at k _ 0 (λ z. omega arith);
      after = λ k l. get_or-set_other one (at + 1) k _ 0 (λ z. omega arith) ∙ get_or-set_other bytes at k _ 0 (λ z. omega arith);
    }

-- a number of which both bytes are as before
pub short_kept : (old new : List ℕ) (p : ℕ) → get_or new p 0 ≡ get_or old p 0 → get_or new (p + 1) 0 ≡ get_or old (p + 1) 0 → short_at new p ≡ short_at old p
short_kept old new p a b = omega arith

-- ── the table ──

-- a store whose table is as before has the same stretches
module _ (slots : ℕ) (old new : List ℕ) (same : length new ≡ length old) (table : (k : ℕ) → k < table_end slots → get_or new k 0 ≡ get_or old k 0) where
  pub first_unit_kept : (m : ℕ) → m < slots → first_unit new m ≡ first_unit old m
  first_unit_kept m l = short_kept old new (m * 4) (table (m * 4) (omega arith)) (table (m * 4 + 1) (omega arith))

  pub units_kept : (m : ℕ) → m < slots → units_of new m ≡ units_of old m
  units_kept m l = short_kept old new (m * 4 + 2) (table (m * 4 + 2) (omega arith)) (table (m * 4 + 2 + 1) (omega arith))

  pub used_kept : used_of slots new ≡ used_of slots old
  used_kept = short_kept old new (slots * 4) (table (slots * 4) (omega arith)) (table (slots * 4 + 1) (omega arith))

  pub stretches_kept : Stretches slots old → Stretches slots new
  stretches_kept w =
      let u = used_kept in
      record {
        fits = omega (arith, w.fits);
        within = λ m l. omega (arith, w.within m l, first_unit_kept m l, units_kept m l);
        apart =
            λ m n l k differs.
            let a = first_unit_kept m l in
            let b = units_kept m l in
            let c = first_unit_kept n k in
            let e = units_kept n k in
            ⊎_elim (λ h. inl (omega arith)) (λ h. inr (omega arith)) (w.apart m n l k differs);
      }

-- a store with a clear table has no stretches
module _ (slots : ℕ) (bytes : List ℕ) (clear : (k : ℕ) → k < table_end slots → get_or bytes k 0 ≡ 0) where
  none_used : used_of slots bytes ≡ 0
  none_used = let a = clear (slots * 4) (omega arith) in let b = clear (slots * 4 + 1) (omega arith) in omega arith

  none_placed : (m : ℕ) → m < slots → first_unit bytes m ≡ 0
  none_placed m l = let a = clear (m * 4) (omega arith) in let b = clear (m * 4 + 1) (omega arith) in omega arith

  pub no_units : (m : ℕ) → m < slots → units_of bytes m ≡ 0
  no_units m l = let a = clear (m * 4 + 2) (omega arith) in let b = clear (m * 4 + 2 + 1) (omega arith) in omega arith

  pub no_stretches : table_end slots ≤ length bytes → Stretches slots bytes
  no_stretches room =
      let u = none_used in
      record {
        fits = omega arith;
        within = λ m l. omega (arith, none_placed m l, no_units m l);
        apart = λ m n l k differs. inl (omega (arith, none_placed m l, no_units m l));
      }

-- ── free units ──

-- behind what is used
pub free_behind : (slots units : ℕ) (bytes : List ℕ) → Stretches slots bytes → table_end slots + (used_of slots bytes + units) * 8 ≤ length bytes
    → Free slots units bytes bytes (used_of slots bytes)
free_behind slots units bytes w room =
    record { same = refl; stretches = w; used = refl; room = room; slots_as = λ m l. inl (refl, refl); behind = λ k l. refl }

-- from the first place on, once all stretches are given up
pub free_first : (slots units : ℕ) (old new : List ℕ) → GivenUp slots old new → table_end slots + units * 8 ≤ length old → Free slots units old new 0
free_first slots units old new g room =
    let same = g.same in
    record {
      same = g.same;
      stretches = no_stretches slots new g.clear (omega arith);
      used = sym (none_used slots new g.clear);
      room = omega arith;
      slots_as = λ m l. inr (none_placed slots new g.clear m l, no_units slots new g.clear m l);
      behind = g.behind;
    }

-- ── a claim ──

-- the slot's own stretch suffices
pub claim_own : (slots slot units : ℕ) (bytes : List ℕ) → Stretches slots bytes → units ≤ units_of bytes slot
    → Claimed slots slot units bytes bytes (begin_of slots bytes slot)
claim_own slots slot units bytes w enough =
    record { same = refl; stretches = w; begins = refl; enough = enough; others = λ m l n. inl (refl, refl); behind = λ k l. refl }

-- free units for the slot: its entry and what is used are put, one after the other
module _ (slots slot units : ℕ) (old free one two new : List ℕ) (r : ℕ) (f : Free slots units old free r) (l : slot < slots)
    (place : ShortPut r (slot * 4) free one) (count : ShortPut units (slot * 4 + 2) one two) (used : ShortPut (r + units) (slots * 4) two new) where
  -- what is put stays put
  own_place : first_unit new slot ≡ r
  own_place =
      short_kept one new (slot * 4) (used.before (slot * 4) (omega arith) ∙ count.before (slot * 4) (omega arith))
      (used.before (slot * 4 + 1) (omega arith) ∙ count.before (slot * 4 + 1) (omega arith))
      ∙ place.is

  own_units : units_of new slot ≡ units
  own_units = short_kept two new (slot * 4 + 2) (used.before (slot * 4 + 2) (omega arith)) (used.before (slot * 4 + 2 + 1) (omega arith)) ∙ count.is

  -- a byte of the table outside the slot's entry is as it was
  other_byte : (k : ℕ) → k < slots * 4 → (k < slot * 4) ⊎ (slot * 4 + 4 ≤ k) → get_or new k 0 ≡ get_or free k 0
  other_byte k b (inl h) = used.before k b ∙ count.before k (omega arith) ∙ place.before k h
  other_byte k b (inr h) = used.before k b ∙ count.after k (omega arith) ∙ place.after k (omega arith)

  module _ (m : ℕ) (b : m < slots) (differs : m ≡ slot → ⊥) where
    beside : (x : ℕ) → x < 4 → (m * 4 + x < slot * 4) ⊎ (slot * 4 + 4 ≤ m * 4 + x)
    beside x s = ⊎_elim (λ (h : m < slot). inl (omega arith)) (λ (h : slot ≤ m). inr (omega arith)) (below_or m slot)

    other_place : first_unit new m ≡ first_unit free m
    other_place =
        let at : m * 4 + 0 ≡ m * 4 = omega arith in
        short_kept free new (m * 4) (rw at at (other_byte (m * 4 + 0) (omega arith) (beside 0 (omega arith))))
        (other_byte (m * 4 + 1) (omega arith) (beside 1 (omega arith)))

    other_units : units_of new m ≡ units_of free m
    other_units =
        let at : m * 4 + 2 + 1 ≡ m * 4 + 3 = omega arith in
        short_kept free new (m * 4 + 2) (other_byte (m * 4 + 2) (omega arith) (beside 2 (omega arith)))
        (rw at (other_byte (m * 4 + 3) (omega arith) (beside 3 (omega arith))))

  -- each other slot's stretch lies before the new one
  other_within : (m : ℕ) → m < slots → (m ≡ slot → ⊥) → first_unit new m + units_of new m ≤ r
  other_within m b differs =
      let u = f.used in omega (arith, f.stretches.within m b, other_place m b differs, other_units m b differs)

  stretches : Stretches slots new
  stretches =
      let same-one = place.same in
      let same-two = count.same in
      let same_new = used.same in
      let is = used.is in
      record {
        fits = omega (arith, f.room);
        within = λ m b. by_slot m b (ℕ_discrete m slot);
        apart = λ m n b c differs. by_slots m n b c differs (ℕ_discrete m slot) (ℕ_discrete n slot);
      }
    where
      by_slot : (m : ℕ) → m < slots → Dec (m ≡ slot) → first_unit new m + units_of new m ≤ used_of slots new
      by_slot m b (yes e) = let is = used.is in rw e (omega (arith, own_place, own_units))
      by_slot m b (no h) = let is = used.is in omega (arith, other_within m b h)

      by_slots : (m n : ℕ) → m < slots → n < slots → (m ≡ n → ⊥) → Dec (m ≡ slot) → Dec (n ≡ slot)
          → (first_unit new m + units_of new m ≤ first_unit new n) ⊎ (first_unit new n + units_of new n ≤ first_unit new m)
      by_slots m n b c differs (yes e) (yes h) = absurd (differs (e ∙ sym h))
      by_slots m n b c differs (yes e) (no h) = inr (rw e (omega (arith, own_place, other_within n c h)))
      by_slots m n b c differs (no g) (yes h) = inl (rw h (omega (arith, own_place, other_within m b g)))
      by_slots m n b c differs (no g) (no h) =
          let w = other_place m b g in
          let x = other_units m b g in
          let y = other_place n c h in
          let z = other_units n c h in
          ⊎_elim (λ k. inl (omega arith)) (λ k. inr (omega arith)) (f.stretches.apart m n b c differs)

  pub claim_free : Claimed slots slot units old new (table_end slots + r * 8)
  claim_free =
      record {
        same = used.same ∙ count.same ∙ place.same ∙ f.same;
        stretches = stretches;
        begins = omega (arith, own_place);
        enough = omega (arith, own_units);
        others =
            λ m b differs.
            let x = other_place m b differs in
            let y = other_units m b differs in
            ⊎_elim (λ h. inl (x ∙ h.0, y ∙ h.1)) (λ h. inr (x ∙ h.0, y ∙ h.1)) (f.slots_as m b);
        behind =
            λ k b.
            used.after k (omega arith) ∙ count.after k (omega arith) ∙ place.after k (omega arith) ∙ f.behind k b;
      }

-- a stretch that is claimed lies in the store, behind the table
pub claim_within : (slots slot units : ℕ) (old new : List ℕ) (r : ℕ) → slot < slots → Claimed slots slot units old new r
    → (table_end slots ≤ r) × (r + units * 8 ≤ length old)
claim_within slots slot units old new r l c =
    let b = c.begins in
    let e = c.enough in
    let s = c.same in
    let w = c.stretches.fits in
    let i = c.stretches.within slot l in
    (omega arith, omega arith)
