-- What the steps of making a map do. Assumes nothing.
use Rattle.std.specs.Prelude.{true, List, ◌≡◌, ℕ, ◌+◌, ◌-◌, ◌*◌, ◌^◌, ◌<◌, ◌≤◌, length}
use Rattle.pair_overlap.specs.Meet.{strip_at}
use Rattle.bit_laws.specs.Bit.{bit_in}
use Rattle.search_words.specs.Words.{Cleared, Repeated}
use Rattle.search_marks.specs.Marks.{Made}
use Rattle.search_levels.specs.Levels.{Levels, level_of, level_bound}
use Rattle.search_maps.specs.declared.Sides.{Sides}
use Rattle.search_maps.specs.Map.{row_width, mark_words, map_words}

-- the words of a level of one mark
abbrev pub point_size : ℕ
point_size = 5

-- levels of one mark, at 0
pub record Points (ws : List ℕ) : Type 0 where
  pub levels : Levels ws point_size level_bound
  pub set : bit_in (level_of ws point_size 0) 0 ≡ true
  pub only : (p : ℕ) → bit_in (level_of ws point_size 0) p ≡ true → p ≡ 0

-- a strip of the stretch has the point, along and across
pub record StripPoint (es : List (List ℕ)) (a c : ℕ) : Type 0 where
  pub number : ℕ
  pub below : number < length es
  pub line : (strip_at es number).line ≡ c
  pub low : (strip_at es number).first ≤ a
  pub high : a < (strip_at es number).first + (strip_at es number).count

-- such a point, moved by at most `extra` along and by at most as much across
pub record GrownPoint (es : List (List ℕ)) (extra a c : ℕ) : Type 0 where
  pub from_along : ℕ
  pub from_across : ℕ
  pub by_along : ℕ
  pub by_across : ℕ
  pub from : StripPoint es from_along from_across
  pub few_along : by_along ≤ extra
  pub few_across : by_across ≤ extra
  pub along : a ≡ from_along + by_along
  pub across : c ≡ from_across + by_across

-- the place of a point of P in rows of w bits
pub record MarkAt (P : ℕ → ℕ → Type 0) (w p : ℕ) : Type 0 where
  pub a : ℕ
  pub c : ℕ
  pub point : P a c
  pub place : p ≡ c * w + a

-- the bits are the places of the points of P
pub record MarksOf (P : ℕ → ℕ → Type 0) (w : ℕ) (bs : List ℕ) : Type 0 where
  pub set : (a c : ℕ) → P a c → bit_in bs (c * w + a) ≡ true
  pub only : (p : ℕ) → bit_in bs p ≡ true → MarkAt P w p

-- the first words are these marks
pub record MarksMade (P : ℕ → ℕ → Type 0) (w size : ℕ) (old new : List ℕ) : Type 0 where
  pub same : length new ≡ length old
  pub set : (a c : ℕ) → P a c → c * w + a < size * 64 → bit_in new (c * w + a) ≡ true
  pub only : (p : ℕ) → p < size * 64 → bit_in new p ≡ true → MarkAt P w p

-- marks in rows of w bits, moved by up to `extra` bits and then by up to as many rows
pub record MarksGrown (w size extra : ℕ) (old new : List ℕ) : Type 0 where
  pub between : List ℕ
  pub right : Repeated size 1 (extra + 1) old between
  pub up : Repeated size w (extra + 1) between new

-- levels for strips of up to `along` pixels, of which the widest is no wider
pub record LevelsFor (along levels : ℕ) : Type 0 where
  pub some : 1 ≤ levels
  pub few : levels ≤ level_bound
  pub enough : along < 2 ^ levels
  pub narrow : 2 ^ (levels - 1) ≤ along

-- the words are cleared, and the strips' sums with the marks are set in them
pub record MapFilled (es : List (List ℕ)) (z : Sides) (bs xs zs : List ℕ) : Type 0 where
  pub cleared : List ℕ
  pub clear : Cleared (map_words z) xs cleared
  pub made : Made cleared bs es (row_width z) 1 (length es) zs

-- levels of a piece's marks, grown by `extra`
pub record LevelsMade (es : List (List ℕ)) (z : Sides) (extra levels : ℕ) (ws : List ℕ) : Type 0 where
  pub wide : Levels ws (mark_words z) levels
  pub marks : MarksOf (GrownPoint es extra) (row_width z) (level_of ws (mark_words z) 0)
