-- How the store stays right: one with no stretch is, and one stays so when a line is put into a stretch. Assumes nothing.
use Rattle.list_laws.proofs.Kit.{◌∙◌, ◌≡◌, ap, refl, subst, sym, ◌⊎◌, inl, inr, ⊎_elim, List, ◌*◌, ◌+◌, ◌/◌, ◌%◌, ◌<◌, ◌≤◌, ℕ, arith, get_or, length, set}
use Rattle.list_laws.proofs.Kit.{get_or-eq_default, dec_lt, get_or-replicate, length-replicate, length-set, replicate, get_or-set_other, get_or-set_same}
use Rattle.list_laws.proofs.Kit.{ℕ_discrete}
use Rattle.model.specs.Layout.{Job}
use Rattle.model.specs.Lent.{piece_bound}
use Rattle.model.specs.declared.Direction.{Direction}
use Rattle.model.specs.declared.Direction.TheVariants.{Horizontal, Vertical}
use Rattle.model.specs.declared.Turn.{Turn}
use Rattle.overlap_laws.specs.Grown.{grown, grown_piece}
use Rattle.search_shapes.specs.Shapes.{numbered_shape, shape_number}
use Rattle.search_shapes.proofs.Numbers.{turn_below, number_back}
use Rattle.search_laws.specs.Lines.{line_places, HoldsLine}
use Rattle.search_line_store.specs.Store.{first_unit, units_of, table_end, begin_of, Claimed}
use Rattle.search_line_store.proofs.Stretching.{units_kept, first_unit_kept, stretches_kept, no_units, no_stretches}
use Rattle.search_lines.specs.declared.RunSize.{RunSize}
use Rattle.search_lines.specs.Kept.{key_bytes, key_at, direction_number, key_of, MapsReady, LineIn, LinesKept}
use Rattle.search_lines.specs.Making.{LineMade, KeyPut, UnitsFit}

-- ── keys ──

-- the job whose pieces are this one's, grown by its gap
abbrev grown_job : Job → Job
grown_job j =
    record {
      size = j.size;
      piece = λ i. record { shape = grown j.size.gap (j.piece i).shape; turns = (j.piece i).turns; locked = (j.piece i).locked };
    }

-- pieces and turns of one number have one shape
pub same_shape : (j : Job) (i k : ℕ) (t u : Turn) → shape_number i t ≡ shape_number k u → grown_piece j i t ≡ grown_piece j k u
same_shape j i k t u e = sym (number_back (grown_job j) i t) ∙ ap (numbered_shape (grown_job j)) e ∙ number_back (grown_job j) k u

-- a direction has one number
same_direction : (d d' : Direction) → direction_number d ≡ direction_number d' → d ≡ d'
same_direction Horizontal Horizontal e = refl
same_direction Vertical Vertical e = refl
same_direction Horizontal Vertical e = absurd (omega arith)
same_direction Vertical Horizontal e = absurd (omega arith)

-- the four bytes of a number make it again
bytes_make : (key : ℕ) → key % 256 + key / 256 % 256 * 256 + key / 65536 % 256 * 65536 + key / 16777216 * 16777216 ≡ key
bytes_make key = omega arith

-- a key that is put byte by byte
module _ (lines : List ℕ) (at key : ℕ) (room : at + key_bytes ≤ length lines) where
  -- after its first, second, third and last byte
  abbrev one : List ℕ
  one = set lines at (key % 256)

  abbrev two : List ℕ
  two = set one (at + 1) (key / 256 % 256)

  abbrev three : List ℕ
  three = set two (at + 2) (key / 65536 % 256)

  abbrev four : List ℕ
  four = set three (at + 3) (key / 16777216)

  pub key_put : KeyPut key at lines four
  key_put =
      record {
        same = simp length-set;
        key_is =
            let a : get_or four at 0 ≡ key % 256 =
            get_or-set_other three (at + 3) at _ 0 (λ z. omega arith)
            ∙ get_or-set_other two (at + 2) at _ 0 (λ z. omega arith)
            ∙ get_or-set_other one (at + 1) at _ 0 (λ z. omega arith)
            ∙ get_or-set_same lines at _ 0 (omega arith) in
            let b : get_or four (at + 1) 0 ≡ key / 256 % 256 =
            get_or-set_other three (at + 3) (at + 1) _ 0 (λ z. omega arith)
            ∙ get_or-set_other two (at + 2) (at + 1) _ 0 (λ z. omega arith)
            ∙ get_or-set_same one (at + 1) _ 0 (simp length-set (omega arith)) in
            let c : get_or four (at + 2) 0 ≡ key / 65536 % 256 =
            get_or-set_other three (at + 3) (at + 2) _ 0 (λ z. omega arith) ∙ get_or-set_same two (at + 2) _ 0 (simp length-set (omega arith)) in
            let d : get_or four (at + 3) 0 ≡ key / 16777216 = get_or-set_same three (at + 3) _ 0 (simp length-set (omega arith)) in
            let sum = bytes_make key in
            omega arith;
        before = λ k l. untouched k (λ z. omega arith) (λ z. omega arith) (λ z. omega arith) (λ z. omega arith);
        after = λ k l. untouched k (λ z. omega arith) (λ z. omega arith) (λ z. omega arith) (λ z. omega arith);
      }
    where
      untouched : (k : ℕ) → (k ≡ at → ⊥) → (k ≡ at + 1 → ⊥) → (k ≡ at + 2 → ⊥) → (k ≡ at + 3 → ⊥) → get_or four k 0 ≡ get_or lines k 0
      untouched k a b c d =
          get_or-set_other three (at + 3) k _ 0 d ∙ get_or-set_other two (at + 2) k _ 0 c ∙ get_or-set_other one (at + 1) k _ 0 b ∙ get_or-set_other lines at k _ 0 a

-- ── the store ──

-- every byte of a cleared store is 0
pub cleared_byte : (n k : ℕ) → get_or {A = ℕ} (replicate n 0) k 0 ≡ 0
cleared_byte n k = by_place (dec_lt k n)
  where
    by_place : Dec (k < n) → get_or {A = ℕ} (replicate n 0) k 0 ≡ 0
    by_place (yes b) = get_or-replicate {A = ℕ} n k 0 0 b
    by_place (no h) = let e = length-replicate {A = ℕ} n 0 in get_or-eq_default (replicate n 0) 0 (omega arith)

module _ (j : Job) (r : RunSize) where
  -- a store of which no slot has a stretch keeps no line
  pub none_kept : (lines maps : List ℕ) → MapsReady j maps → table_end r.slots ≤ length lines → 0 < r.slots → ((k : ℕ) → get_or lines k 0 ≡ 0)
      → LinesKept j r lines maps
  none_kept lines maps ready room some none =
      record {
        ready = ready;
        some = some;
        stretches = no_stretches r.slots lines (λ k l. none k) room;
        holds =
            λ m i k t u d offset l a b c stretch e.
            absurd (let n : units_of lines m ≡ 0 = no_units r.slots lines (λ k l. none k) m l in omega arith);
      }

  -- a stretch that a slot claims, with a line and then its key put into it
  module _ (lines maps : List ℕ) (kept : LinesKept j r lines maps) (m i k : ℕ) (t u : Turn) (d : Direction) (offset units at : ℕ) (mid made new more : List ℕ)
      (few : j.size.count ≤ piece_bound) (slot : m < r.slots) (first : i < j.size.count) (second : k < j.size.count) (near : offset < 1024)
      (fit : UnitsFit d (grown_piece j i t) (grown_piece j k u) units) (claimed : Claimed r.slots m units lines mid at)
      (line : LineMade d (grown_piece j i t) (grown_piece j k u) offset mid (at + key_bytes) made) (ready : MapsReady j more)
      (key : ℕ) (is : key ≡ key_of d (shape_number i t) (shape_number k u) offset) (put : KeyPut key at made new)
    where
      -- the line of the stretch, behind its key
      pub line_put : HoldsLine d (grown_piece j i t) (grown_piece j k u) offset new (at + key_bytes)
      line_put x l = put.after (at + key_bytes + x) (omega arith) ∙ line.line x l

      -- the stretch holds every line that its key names: they are all one
      own_line : (i' k' : ℕ) (t' u' : Turn) (d' : Direction) (offset' : ℕ) → i' < j.size.count → k' < j.size.count → offset' < 1024
          → key_of d (shape_number i t) (shape_number k u) offset ≡ key_of d' (shape_number i' t') (shape_number k' u') offset'
          → LineIn d' (grown_piece j i' t') (grown_piece j k' u') offset' new at (units_of mid m)
      own_line i' k' t' u' d' offset' a b c e =
          let v : shape_number i t < 256 = (let y = turn_below t in omega arith) in
          let v' : shape_number i' t' < 256 = (let y = turn_below t' in omega arith) in
          let x : shape_number k u < 256 = (let y = turn_below u in omega arith) in
          let x' : shape_number k' u' < 256 = (let y = turn_below u' in omega arith) in
          let n : direction_number d ≡ direction_number d' = omega arith in
          let p : shape_number i t ≡ shape_number i' t' = omega arith in
          let q : shape_number k u ≡ shape_number k' u' = omega arith in
          let o : offset ≡ offset' = omega arith in
          let f : grown_piece j i t ≡ grown_piece j i' t' = same_shape j i i' t t' p in
          let g : grown_piece j k u ≡ grown_piece j k' u' = same_shape j k k' u u' q in
          let own : LineIn d (grown_piece j i t) (grown_piece j k u) offset new at (units_of mid m) = (omega (arith, fit.enough, claimed.enough), line_put) in
          rw (← same_direction d d' n, ← f, ← g, ← o) own

      -- the table of slots is as the claim left it
      table_same : (x : ℕ) → x < table_end r.slots → get_or new x 0 ≡ get_or mid x 0
      table_same x l = let e = claimed.begins in put.before x (omega arith) ∙ line.before x (omega arith)

      same_length : length new ≡ length mid
      same_length = put.same ∙ line.same

      -- another slot that has a stretch has the one that it had
      module _ (n : ℕ) (b : n < r.slots) (differs : n ≡ m → ⊥) (stretch : 0 < units_of new n) where
        other_slot : (first_unit mid n ≡ first_unit lines n) × (units_of mid n ≡ units_of lines n)
        other_slot =
            ⊎_elim (λ h. h)
            (λ h. let e = units_kept r.slots mid new same_length table_same n b in absurd (omega (arith, h.1)))
            (claimed.others n b differs)

        -- a byte of its stretch is as before
        other_byte : (c : ℕ) → c < units_of mid n * 8 → get_or new (begin_of r.slots mid n + c) 0 ≡ get_or lines (begin_of r.slots mid n + c) 0
        other_byte c l =
            let e = claimed.begins in
            let f = fit.enough in
            let g = claimed.enough in
            claimed_byte e f g (claimed.stretches.apart n m b slot differs)
            ∙ claimed.behind (begin_of r.slots mid n + c) (omega arith)
          where
            claimed_byte : at ≡ begin_of r.slots mid m → key_bytes + line_places d (grown_piece j i t) (grown_piece j k u) ≤ units * 8 → units ≤ units_of mid m
                → (first_unit mid n + units_of mid n ≤ first_unit mid m) ⊎ (first_unit mid m + units_of mid m ≤ first_unit mid n)
                → get_or new (begin_of r.slots mid n + c) 0 ≡ get_or mid (begin_of r.slots mid n + c) 0
            claimed_byte e f g (inl h) = put.before _ (omega arith) ∙ line.before _ (omega arith)
            claimed_byte e f g (inr h) = put.after _ (omega arith) ∙ line.after _ (omega arith)

        other_holds : (i' k' : ℕ) (t' u' : Turn) (d' : Direction) (offset' : ℕ) → i' < j.size.count → k' < j.size.count → offset' < 1024
            → key_at new (begin_of r.slots new n) ≡ key_of d' (shape_number i' t') (shape_number k' u') offset'
            → LineIn d' (grown_piece j i' t') (grown_piece j k' u') offset' new (begin_of r.slots new n) (units_of new n)
        other_holds i' k' t' u' d' offset' a c near' e =
            let place = first_unit_kept r.slots mid new same_length table_same n b in
            let units-same = units_kept r.slots mid new same_length table_same n b in
            let old-place = other_slot.0 in
            let old-units = other_slot.1 in
            let begin : begin_of r.slots new n ≡ begin_of r.slots mid n = omega arith in
            let old-begin : begin_of r.slots lines n ≡ begin_of r.slots mid n = omega arith in
            let here : ℕ = begin_of r.slots mid n in
            let is_key : key_at new here ≡ key_of d' (shape_number i' t') (shape_number k' u') offset' =
            subst (λ (z : ℕ). key_at new z ≡ key_of d' (shape_number i' t') (shape_number k' u') offset') begin e in
            let at : here + 0 ≡ here = omega arith in
            let byte-0 = rw at at (other_byte 0 (omega arith)) in
            let byte-1 = other_byte 1 (omega arith) in
            let byte-2 = other_byte 2 (omega arith) in
            let byte-3 = other_byte 3 (omega arith) in
            let same_key : key_at lines here ≡ key_at new here = omega arith in
            let held =
            kept.holds n i' k' t' u' d' offset' b a c near' (omega arith)
            (subst (λ (z : ℕ). key_at lines z ≡ key_of d' (shape_number i' t') (shape_number k' u') offset') (sym old-begin) (same_key ∙ is_key)) in
            let room = held.0 in (
              omega arith,
              λ x l.
                  let new-at : begin_of r.slots new n + key_bytes + x ≡ here + (key_bytes + x) = omega arith in
                  let old-at : begin_of r.slots lines n + key_bytes + x ≡ here + (key_bytes + x) = omega arith in
                  ap (λ (z : ℕ). get_or new z 0) new-at ∙ other_byte (key_bytes + x) (omega arith) ∙ ap (λ (z : ℕ). get_or lines z 0) (sym old-at) ∙ held.1 x l,
            )

      -- the store with the line in the slot's stretch
      pub renewed : LinesKept j r new more
      renewed =
          record {
            ready = ready;
            some = kept.some;
            stretches = stretches_kept r.slots mid new same_length table_same claimed.stretches;
            holds = λ n i' k' t' u' d' offset' l a b c s e. by_slot n i' k' t' u' d' offset' l a b c s e (ℕ_discrete n m);
          }
        where
          by_slot : (n i' k' : ℕ) (t' u' : Turn) (d' : Direction) (offset' : ℕ) → n < r.slots → i' < j.size.count → k' < j.size.count → offset' < 1024
              → 0 < units_of new n → key_at new (begin_of r.slots new n) ≡ key_of d' (shape_number i' t') (shape_number k' u') offset' → Dec (n ≡ m)
              → LineIn d' (grown_piece j i' t') (grown_piece j k' u') offset' new (begin_of r.slots new n) (units_of new n)
          by_slot n i' k' t' u' d' offset' l a b c s e (yes h) =
              let place = first_unit_kept r.slots mid new same_length table_same m slot in
              let units-same = units_kept r.slots mid new same_length table_same m slot in
              let begin : begin_of r.slots new m ≡ at = omega (arith, claimed.begins) in
              let own-begin : begin_of r.slots new n ≡ at = ap (begin_of r.slots new) h ∙ begin in
              let own_units : units_of new n ≡ units_of mid m = ap (units_of new) h ∙ units-same in
              let is_key : key_at new at ≡ key_of d' (shape_number i' t') (shape_number k' u') offset' =
              subst (λ (z : ℕ). key_at new z ≡ key_of d' (shape_number i' t') (shape_number k' u') offset') own-begin e in
              subst (λ (z : ℕ). LineIn d' (grown_piece j i' t') (grown_piece j k' u') offset' new z (units_of new n)) (sym own-begin)
              (subst (λ (z : ℕ). LineIn d' (grown_piece j i' t') (grown_piece j k' u') offset' new at z) (sym own_units)
              (own_line i' k' t' u' d' offset' a b c (sym is ∙ sym put.key_is ∙ is_key)))
          by_slot n i' k' t' u' d' offset' l a b c s e (no h) = other_holds n l h s i' k' t' u' d' offset' a b c e
