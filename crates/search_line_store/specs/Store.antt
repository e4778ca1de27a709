-- A store of bytes that begins with a table: four bytes a slot, two of them where its stretch begins and two how long it is, in units of eight bytes
-- from the first place behind the table on. Two bytes behind the slots hold how many units are used. No two stretches meet. Assumes nothing.
use Rattle.std.specs.Prelude.{List, ◌⊎◌, ◌≡◌, ℕ, ◌+◌, ◌*◌, ◌<◌, ◌≤◌, length, get_or}

-- the most bytes of a store: its units are fewer than 65,536, so that two bytes hold the number of each
abbrev pub line_store_bound : ℕ
line_store_bound = 524288

-- the number that two bytes hold
abbrev pub short_at : List ℕ → ℕ → ℕ
short_at bytes p = get_or bytes p 0 + get_or bytes (p + 1) 0 * 256

-- the unit at which the stretch of slot m begins, and how many units it has; it has none where the slot has no stretch
abbrev pub first_unit : List ℕ → ℕ → ℕ
first_unit bytes m = short_at bytes (m * 4)

abbrev pub units_of : List ℕ → ℕ → ℕ
units_of bytes m = short_at bytes (m * 4 + 2)

-- how many units are used
abbrev pub used_of : ℕ → List ℕ → ℕ
used_of slots bytes = short_at bytes (slots * 4)

-- the first byte behind the table
abbrev pub table_end : ℕ → ℕ
table_end slots = slots * 4 + 8

-- the byte at which the stretch of slot m begins
abbrev pub begin_of : ℕ → List ℕ → ℕ → ℕ
begin_of slots bytes m = table_end slots + first_unit bytes m * 8

-- the stretches lie in what is used, which lies in the store, and no two of them meet
pub record Stretches (slots : ℕ) (bytes : List ℕ) : Type 0 where
  pub fits : table_end slots + used_of slots bytes * 8 ≤ length bytes
  pub within : (m : ℕ) → m < slots → first_unit bytes m + units_of bytes m ≤ used_of slots bytes
  pub apart : (m n : ℕ) → m < slots → n < slots → (m ≡ n → ⊥)
      → (first_unit bytes m + units_of bytes m ≤ first_unit bytes n) ⊎ (first_unit bytes n + units_of bytes n ≤ first_unit bytes m)

-- the number stands in two bytes, and outside them nothing is written
pub record ShortPut (number at : ℕ) (old new : List ℕ) : Type 0 where
  pub same : length new ≡ length old
  pub is : short_at new at ≡ number
  pub before : (k : ℕ) → k < at → get_or new k 0 ≡ get_or old k 0
  pub after : (k : ℕ) → at + 2 ≤ k → get_or new k 0 ≡ get_or old k 0

-- no slot has a stretch, and behind the table nothing is written
pub record GivenUp (slots : ℕ) (old new : List ℕ) : Type 0 where
  pub same : length new ≡ length old
  pub clear : (k : ℕ) → k < table_end slots → get_or new k 0 ≡ 0
  pub behind : (k : ℕ) → table_end slots ≤ k → get_or new k 0 ≡ get_or old k 0

-- slot m has the stretch that it had, or none
abbrev pub KeptOrNone : List ℕ → List ℕ → ℕ → Type 0
KeptOrNone old new m = ((first_unit new m ≡ first_unit old m) × (units_of new m ≡ units_of old m)) ⊎ ((first_unit new m ≡ 0) × (units_of new m ≡ 0))

-- so many units from r on are free, behind all stretches; each slot has the stretch that it had, or none
pub record Free (slots units : ℕ) (old new : List ℕ) (r : ℕ) : Type 0 where
  pub same : length new ≡ length old
  pub stretches : Stretches slots new
  pub used : r ≡ used_of slots new
  pub room : table_end slots + (r + units) * 8 ≤ length new
  pub slots_as : (m : ℕ) → m < slots → KeptOrNone old new m
  pub behind : (k : ℕ) → table_end slots ≤ k → get_or new k 0 ≡ get_or old k 0

-- the slot has a stretch of at least so many units that begins at r; each other slot has the stretch that it had, or none
pub record Claimed (slots slot units : ℕ) (old new : List ℕ) (r : ℕ) : Type 0 where
  pub same : length new ≡ length old
  pub stretches : Stretches slots new
  pub begins : r ≡ begin_of slots new slot
  pub enough : units ≤ units_of new slot
  pub others : (m : ℕ) → m < slots → (m ≡ slot → ⊥) → KeptOrNone old new m
  pub behind : (k : ℕ) → table_end slots ≤ k → get_or new k 0 ≡ get_or old k 0
