-- Maps kept in one slice of words. Its first words are slots: a slot holds 0, or the key of a map and where that begins. The word after the slots
-- tells where the next map goes; the maps stand after it, one after the other. Which direction and which two shapes a key stands for is the
-- caller's: d, s and t have them by key. Assumes nothing.
use Rattle.std.specs.Prelude.{List, ◌≡◌, ℕ, ◌+◌, ◌*◌, ◌<◌, ◌≤◌, max, length, get_or, take, drop}
use Rattle.model.specs.Piece.{Shape}
use Rattle.model.specs.declared.Direction.{Direction}
use Rattle.overlap_laws.specs.Grown.{grown}
use Rattle.bit_laws.specs.Bit.{length_limit}
use Rattle.search_maps.specs.declared.Sides.{Sides}
use Rattle.search_maps.specs.Map.{sides_of, map_words, scratch_words, MapOf}

-- every begin is below it
abbrev pub begin_limit : ℕ
begin_limit = 4294967296

-- every key is below it, so that a slot has room for it
abbrev pub key_limit : ℕ
key_limit = 1000000000

-- what a slot holds for a key whose map begins at `at`; it is not 0
abbrev pub slot_word : ℕ → ℕ → ℕ
slot_word key at = (key + 1) * begin_limit + at

-- where the next map goes
abbrev pub end_of : ℕ → List ℕ → ℕ
end_of slots words = get_or words slots 0

-- the words that a map is made in: its own, or its scratch where that is longer
abbrev pub room_words : Sides → ℕ
room_words z = max (map_words z) (scratch_words z)

-- the shapes of all keys, each grown by `extra`
abbrev pub all_grown : ℕ → (ℕ → Shape) → ℕ → Shape
all_grown extra s key = grown extra (s key)

-- the first n words are copied
pub record Copied (n : ℕ) (from xs ys : List ℕ) : Type 0 where
  pub same : length ys ≡ length xs
  pub each : (k : ℕ) → k < n → get_or ys k 0 ≡ get_or from k 0

-- the map of two shapes stands from `at` on, before `end`
pub record MapAt (d : Direction) (s t : Shape) (words : List ℕ) (at end : ℕ) : Type 0 where
  pub within : at + map_words (sides_of d s t) ≤ end
  pub map : MapOf d s t (take (map_words (sides_of d s t)) (drop at words))

-- the map of each slot's key stands past the slots, before `end`
abbrev pub MapsBefore : ℕ → (ℕ → Direction) → (ℕ → Shape) → (ℕ → Shape) → List ℕ → ℕ → Type 0
MapsBefore slots d s t words end =
    (m key at : ℕ) → m < slots → at < begin_limit → get_or words m 0 ≡ slot_word key at → (slots + 1 ≤ at) × MapAt (d key) (s key) (t key) words at end

-- so it is with the maps that are kept
pub record MapsKept (slots : ℕ) (d : ℕ → Direction) (s t : ℕ → Shape) (words : List ℕ) : Type 0 where
  pub low : slots + 1 ≤ end_of slots words
  pub high : end_of slots words ≤ length words
  pub each : MapsBefore slots d s t words (end_of slots words)

-- no slot has a key
pub record Forgotten (slots : ℕ) (xs ys : List ℕ) : Type 0 where
  pub same : length ys ≡ length xs
  pub none : (m : ℕ) → m < slots → get_or ys m 0 ≡ 0
  pub end : end_of slots ys ≡ slots + 1

-- there is room for n words at r: past every map that is still kept
pub record RoomFor (slots n : ℕ) (xs ys : List ℕ) (r : ℕ) : Type 0 where
  pub same : length ys ≡ length xs
  pub low : slots + 1 ≤ r
  pub fits : r + n ≤ length xs
  pub kept : (d : ℕ → Direction) (s t : ℕ → Shape) → MapsKept slots d s t xs → MapsBefore slots d s t ys r

-- the slot is one of the slots, and there is room to make the map if it is the only one
pub record StoreFits (z : Sides) (key slot slots : ℕ) (words : List ℕ) : Type 0 where
  pub slot_in : slot < slots
  pub few : key < key_limit
  pub end : slots + 1 ≤ end_of slots words
  pub room : slots + 1 + room_words z ≤ length words
  pub short : length words < length_limit

-- the map of the key stands from r on, and all maps that are kept are right if they were
pub record Kept (slots : ℕ) (d : ℕ → Direction) (s t : ℕ → Shape) (key : ℕ) (words words' : List ℕ) (r : ℕ) : Type 0 where
  pub same : length words' ≡ length words
  pub right : MapsKept slots d s t words → MapsKept slots d s t words' × MapAt (d key) (s key) (t key) words' r (end_of slots words')
