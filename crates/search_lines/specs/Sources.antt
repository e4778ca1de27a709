-- Where a line is read: it is the line of two pieces along a direction, forwards or backwards. One line has many sources: of pieces equal to the two, of
-- the two exchanged, and of both turned by a quarter, along the other direction. Assumes nothing.
use Rattle.std.specs.Prelude.{Bool, true, false, not, List, ◌≡◌, ℕ, ◌+◌, ◌-◌, ◌<◌, ◌≤◌, length, get_or}
use Rattle.model.specs.Lent.{Lent, lent_well}
use Rattle.model.specs.declared.Direction.{Direction}
use Rattle.model.specs.declared.Direction.TheVariants.{Horizontal, Vertical}
use Rattle.search_laws.specs.Lines.{middle, line_places, line_penalty}
use Rattle.search_map_laws.specs.Boxes.{ShortTogether}
use Rattle.search_map_laws.specs.Turns.{turn_before}
use Rattle.search_lines.specs.declared.Two.{Two}
use Rattle.search_lines.specs.declared.Source.{Source}
use Rattle.search_lines.specs.Making.{moved_shape, standing_shape}

-- two pieces of a job that passes its check, short together as two different ones are
pub record Named (l : Lent) (two : Two) : Type 0 where
  pub well : lent_well l ≡ true
  pub moved : two.moved < l.size.count
  pub standing : two.standing < l.size.count
  pub offset : two.offset < 1024
  pub small : ShortTogether (moved_shape l two) (standing_shape l two)

-- place k of n, counted from the other end where a line is read backwards
abbrev pub place_in : Bool → ℕ → ℕ → ℕ
place_in false n k = k
place_in true n k = n - 1 - k

-- how many places a source has
abbrev pub source_places : Lent → Source → ℕ
source_places l a = line_places a.direction (moved_shape l a.two) (standing_shape l a.two)

-- what it gives at place k
abbrev pub source_penalty : Lent → Source → ℕ → ℕ
source_penalty l a k =
    line_penalty a.direction (moved_shape l a.two) (standing_shape l a.two) a.two.offset (place_in a.back (source_places l a) k)

-- b gives the line that a gives
pub record SameLine (l : Lent) (a b : Source) : Type 0 where
  pub named : Named l b.two
  pub places : source_places l b ≡ source_places l a
  pub each : (k : ℕ) → k < source_places l a → source_penalty l b k ≡ source_penalty l a k

-- the line itself, and it backwards
abbrev pub plain_source : Direction → Two → Source
plain_source d two = record { two = two; direction = d; back = false }

abbrev pub back_source : Direction → Two → Source
back_source d two = record { two = two; direction = d; back = true }

-- the classes of the two, in their turns and at their offset
abbrev pub classed_two : List ℕ → Two → Two
classed_two classes two =
    record {
      moved = get_or classes two.moved 0;
      moved_turn = two.moved_turn;
      standing = get_or classes two.standing 0;
      standing_turn = two.standing_turn;
      offset = two.offset;
    }

-- the two pieces, both turned back by a quarter, at an offset
abbrev pub turned_two : Two → ℕ → Two
turned_two two o =
    record {
      moved = two.moved;
      moved_turn = turn_before two.moved_turn;
      standing = two.standing;
      standing_turn = turn_before two.standing_turn;
      offset = o;
    }

-- the offset beside a column, counted from the other side of the boxes
abbrev pub mirrored_offset : Lent → Two → ℕ
mirrored_offset l two = middle + middle + (moved_shape l two).columns - ((standing_shape l two).columns + two.offset)

-- the source of both pieces turned back by a quarter
abbrev pub quarter_along : Direction → Lent → Two → Bool → Source
quarter_along Horizontal l two back = record { two = turned_two two two.offset; direction = Vertical; back = not back }
quarter_along Vertical l two back = record { two = turned_two two (mirrored_offset l two); direction = Horizontal; back = back }

abbrev pub quarter_source : Lent → Source → Source
quarter_source l a = quarter_along a.direction l a.two a.back

-- the line of the source stands from `at` on, and outside it nothing is written
pub record SourceMade (l : Lent) (a : Source) (old : List ℕ) (at : ℕ) (new : List ℕ) : Type 0 where
  pub same : length new ≡ length old
  pub line : (k : ℕ) → k < source_places l a → get_or new (at + k) 0 ≡ source_penalty l a k
  pub before : (k : ℕ) → k < at → get_or new k 0 ≡ get_or old k 0
  pub after : (k : ℕ) → at + source_places l a ≤ k → get_or new k 0 ≡ get_or old k 0
