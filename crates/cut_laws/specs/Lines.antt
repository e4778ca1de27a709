-- What document 02, point 2, says of the lines and the steps of the cut list, for any two sets of units, horizontal and vertical. The
-- theorems are `lines_claims` in proofs/Lines and `step_claims` in proofs/Steps. Assumes nothing.
use Rattle.std.specs.Prelude.{true, List, ◌⊎◌, ◌≢◌, ◌≡◌, ℕ, suc, ◌+◌, ◌*◌, ◌<◌, ◌≤◌, length, get_or}
use Rattle.model.specs.Piece.{Shape, pixel, point, extent, other}
use Rattle.model.specs.Buffer.{direction_number}
use Rattle.model.specs.Cut.{CutLine, total_length, unit_count, lift, cut, done, smaller_end, larger_end, step_at}
use Rattle.model.specs.declared.Direction.{Direction}
use Rattle.model.specs.declared.Direction.TheVariants.{Horizontal, Vertical}

-- what stands for a line that is not there
abbrev pub no_line : CutLine
no_line = record { direction = Horizontal; line = 0; first = 0; last = 0 }

-- line number k of a list
abbrev pub cut_line_at : List CutLine → ℕ → CutLine
cut_line_at ls k = get_or ls k no_line

-- the line goes over the unit a of pixel line c along the direction
pub record GoesOver (l : CutLine) (d : Direction) (a c : ℕ) : Type 0 where
  pub direction : l.direction ≡ d
  pub line : l.line ≡ c
  pub low : l.first ≤ a
  pub high : a < l.last

-- just one line of the list goes over the unit
pub record CutOnce (ls : List CutLine) (d : Direction) (a c : ℕ) : Type 0 where
  pub number : ℕ
  pub there : number < length ls
  pub over : GoesOver (cut_line_at ls number) d a c
  pub only : (k : ℕ) → k < length ls → GoesOver (cut_line_at ls k) d a c → k ≡ number

-- a line stands before another: horizontals before verticals, then by pixel line, then in the same pixel line with a gap between them
abbrev pub LineBefore : CutLine → CutLine → Type 0
LineBefore l m =
    (direction_number l.direction < direction_number m.direction)
    ⊎ ((l.direction ≡ m.direction) × ((l.line < m.line) ⊎ ((l.line ≡ m.line) × (l.last < m.first))))

-- two lines lie on the same straight line and touch or overlap, so that they could be joined
pub record Joinable (l m : CutLine) : Type 0 where
  pub direction : l.direction ≡ m.direction
  pub line : l.line ≡ m.line
  pub not_after : l.first ≤ m.last
  pub not_before : m.first ≤ l.last

-- the lines of the units, in the request's words: each unit of the two sets once, and nothing else, joined as far as they go, in order
pub record LinesExactly (units : Direction → Shape) (ls : List CutLine) : Type 0 where
  -- just one line goes over each unit of the sets
  pub every : (d : Direction) (a c : ℕ) → pixel (units d) (point d a c) ≡ true → CutOnce ls d a c
  -- what a line goes over is a unit of the sets
  pub nothing_else : (k : ℕ) → k < length ls → (d : Direction) (a c : ℕ) → GoesOver (cut_line_at ls k) d a c → pixel (units d) (point d a c) ≡ true
  -- no line is empty
  pub some : (k : ℕ) → k < length ls → (cut_line_at ls k).first < (cut_line_at ls k).last
  -- no two lines could be joined
  pub apart : (k m : ℕ) → k < length ls → m < length ls → k ≢ m → Joinable (cut_line_at ls k) (cut_line_at ls m) → ⊥
  -- each line stands before every later one
  pub ordered : (k m : ℕ) → k < m → m < length ls → LineBefore (cut_line_at ls k) (cut_line_at ls m)

-- the lines of the units, and what follows of their lengths, their number and their places
pub record LinesClaims (units : Direction → Shape) (ls : List CutLine) : Type 0 where
  pub exactly : LinesExactly units ls
  -- the lines' lengths in pixels add up to the number of units
  pub lengths : total_length ls ≡ unit_count Horizontal (units Horizontal) + unit_count Vertical (units Vertical)
  -- lines of a pixel line do not touch, so that twice the lines are at most the box's pixels along each line and one more
  pub few : 2 * length ls
      ≤ extent Vertical (units Horizontal) * suc (extent Horizontal (units Horizontal))
      + extent Horizontal (units Vertical) * suc (extent Vertical (units Vertical))
  -- each line lies in the box of its set
  pub line_within : (k : ℕ) → k < length ls → (cut_line_at ls k).line < extent (other (cut_line_at ls k).direction) (units (cut_line_at ls k).direction)
  pub last_within : (k : ℕ) → k < length ls → (cut_line_at ls k).last ≤ extent (cut_line_at ls k).direction (units (cut_line_at ls k).direction)

-- the steps of a list of lines: two for each line, its ends in order, and done for every later number
pub record StepClaims (ls : List CutLine) : Type 0 where
  pub lifts : (k : ℕ) → k < length ls → step_at ls (2 * k) ≡ lift (smaller_end (cut_line_at ls k))
  pub cuts : (k : ℕ) → k < length ls → step_at ls (2 * k + 1) ≡ cut (larger_end (cut_line_at ls k))
  pub ends : (k : ℕ) → 2 * length ls ≤ k → step_at ls k ≡ done
