-- Two lent stretches of strips, each with its piece's corner, and a gap: whether they hold pixels at most the gap apart, and how far one has to
-- be shifted until they do not (document 02, point 4; with a gap of 0: until they hold no common pixel). A corner is seen from the strips'
-- direction, along it and across it, so rows and columns are one case. Assumes nothing.
use Rattle.std.specs.Prelude.{Bool, true, false, not, ◌&&◌, List, [], ◌⊎◌, ◌≡◌, ℕ, ◌+◌, ◌*◌, min, ◌<◌, ◌≤◌, ltb, eqb, length, get_or}
use Rattle.model.specs.Bounded.{any_below, first_from}
use Rattle.model.specs.Overlap.{within}
use Rattle.model.specs.Piece.{gap_bound}
use Rattle.model.specs.Buffer.{entry_strip}
use Rattle.model.specs.Strip.{Strip}
use Rattle.pair_overlap.specs.declared.Corner.{Corner}
use Rattle.pair_overlap.specs.declared.Heads.{Heads}
use Rattle.pair_overlap.specs.declared.Shifts.{Shifts}
use Rattle.pair_overlap.specs.declared.Leeway.{Leeway}
use Rattle.pair_overlap.specs.declared.Span.{Span}

-- the strip at place i of a stretch
abbrev pub strip_at : List (List ℕ) → ℕ → Strip
strip_at es i = entry_strip (get_or es i [])

-- where a strip begins, as one number: lines lie 65,536 apart, more than any coordinate
abbrev pub strip_begin : Strip → ℕ
strip_begin s = s.line * 65536 + s.first

-- the strips stand by line, then first, and begin and count below 256, as strips of a piece do
pub record Ordered (es : List (List ℕ)) : Type 0 where
  pub order : (i j : ℕ) → i ≤ j → j < length es → strip_begin (strip_at es i) ≤ strip_begin (strip_at es j)
  pub low : (i : ℕ) → i < length es → (strip_at es i).first < 256
  pub short : (i : ℕ) → i < length es → (strip_at es i).count < 256

-- a corner's part of that number
abbrev pub base_of : Corner → ℕ
base_of u = u.across * 65536 + u.along

-- a corner within reach of every sheet, some 4,096 columns and 512 rows
abbrev pub Near : Corner → Type 0
Near u = (u.along < 16384) × (u.across < 16384)

-- such a corner shifted
abbrev pub NearShifted : Corner → Type 0
NearShifted u = (u.along < 24576) × (u.across < 24576)

-- the most that a search for a shift goes to
abbrev pub shift_bound : ℕ
shift_bound = 1024

-- where a strip of a piece begins and ends when the corner adds `base` and the strip is made longer by `spread`; its numbers are bytes
pub record SpanOf (s : Strip) (base spread : ℕ) (r : Span) : Type 0 where
  pub begins : r.begin ≡ strip_begin s + base
  pub ends : r.end ≡ strip_begin s + base + s.count + spread
  pub line : s.line < 256
  pub first : s.first < 256
  pub count : s.count < 256

-- each of two strips begins at most g after the other's last pixel, when the corners add x and y
pub record Crossing (g : ℕ) (s : Strip) (x : ℕ) (t : Strip) (y : ℕ) : Type 0 where
  pub first_before : strip_begin s + x < strip_begin t + y + t.count + g
  pub second_before : strip_begin t + y < strip_begin s + x + s.count + g

-- every two strips that cross stand at i and j or later
abbrev pub CrossingsPassed : ℕ → List (List ℕ) → ℕ → List (List ℕ) → ℕ → ℕ → ℕ → Type 0
CrossingsPassed g es x fs y i j =
    (k l : ℕ) → k < length es → l < length fs → Crossing g (strip_at es k) x (strip_at fs l) y → (i ≤ k) × (j ≤ l)

-- where a walk over two stretches may begin, whatever the gap, also when the second is shifted along the strips
pub record WalkBegun (es : List (List ℕ)) (x : ℕ) (fs : List (List ℕ)) (y : ℕ) (r : Heads) : Type 0 where
  pub first : r.first ≤ length es
  pub second : r.second ≤ length fs
  pub onwards : (g m : ℕ) → g ≤ gap_bound → m ≤ shift_bound → CrossingsPassed g es x fs (y + m) r.first r.second

-- the first r strips of a stretch, whose piece's corner adds `base`, end before a place, also when they are made longer and shifted
pub record Skipped (es : List (List ℕ)) (base place r : ℕ) : Type 0 where
  pub within : r ≤ length es
  pub before : (k : ℕ) → k < r → strip_begin (strip_at es k) + base + (strip_at es k).count + gap_bound + shift_bound ≤ place

-- the corner shifted by k along the strips
abbrev pub shifted : ℕ → Corner → Corner
shifted k u = record { along = u.along + k; across = u.across }

-- the corner raised by k lines
abbrev pub raised : ℕ → Corner → Corner
raised k u = record { along = u.along; across = u.across + k }

-- ── pixels at most g apart ──

-- along their lines two placed strips hold pixels at most g apart: each begins at most g after the other's last pixel
abbrev pub reach_along : ℕ → Strip → Corner → Strip → Corner → Bool
reach_along g s u t v =
    ltb (t.first + v.along) (s.first + s.count + g + u.along) && ltb (s.first + u.along) (t.first + t.count + g + v.along)

-- two placed strips hold pixels at most g apart along and across: their lines are at most g apart, and along these they are at most g apart
abbrev pub meet : ℕ → Strip → Corner → Strip → Corner → Bool
meet g s u t v = within g (s.line + u.across) (t.line + v.across) && reach_along g s u t v

-- some strip of the first stretch and some strip of the second hold pixels at most g apart
unfoldable pub stretches_meet : ℕ → List (List ℕ) → Corner → List (List ℕ) → Corner → Bool
stretches_meet g es u fs v = any_below (length es) (λ i. any_below (length fs) (λ j. meet g (strip_at es i) u (strip_at fs j) v))

-- no two of them do once the second is shifted by k along the strips
abbrev pub clear_at : ℕ → List (List ℕ) → Corner → List (List ℕ) → Corner → ℕ → Bool
clear_at g es u fs v k = not (stretches_meet g es u fs (shifted k v))

-- the least such shift below the bound, or the bound
unfoldable pub clear_below : ℕ → List (List ℕ) → Corner → List (List ℕ) → Corner → ℕ → ℕ
clear_below g es u fs v bound = first_from (clear_at g es u fs v) 0 bound

-- the least shift, of the second or of the first, at which no two strips hold pixels at most g apart, if it is below the bound, else the bound
abbrev pub depth_below : ℕ → List (List ℕ) → Corner → List (List ℕ) → Corner → ℕ → ℕ
depth_below g es u fs v bound = min (clear_below g es u fs v bound) (clear_below g fs v es u bound)

-- ── line by line ──
-- Lines at most g apart are one line once the second piece is raised by one of 0, 1, .. 2g lines and the first by g.

-- of two placed strips in one line: they hold pixels at most g apart
abbrev pub meet_in_line : ℕ → Strip → Corner → Strip → Corner → Bool
meet_in_line g s u t v = eqb (s.line + u.across) (t.line + v.across) && reach_along g s u t v

-- some strips of the two stretches that lie in one line hold pixels at most g apart
unfoldable pub lines_meet : ℕ → List (List ℕ) → Corner → List (List ℕ) → Corner → Bool
lines_meet g es u fs v = any_below (length es) (λ i. any_below (length fs) (λ j. meet_in_line g (strip_at es i) u (strip_at fs j) v))

-- the next of so many lines: one more, or 0 after the last
abbrev pub NextLine : ℕ → ℕ → ℕ → Type 0
NextLine k lines r = ((k + 1 < lines) × (r ≡ k + 1)) ⊎ ((lines ≤ k + 1) × (r ≡ 0))

-- what one walk tells of the shifts of the second: at all below r's shift some strips in one line meet; if that is 0 none do at any up to
-- r's room
pub record Slid (g : ℕ) (es : List (List ℕ)) (u : Corner) (fs : List (List ℕ)) (v : Corner) (limit : ℕ) (r : Leeway) : Type 0 where
  pub within : r.shift ≤ limit
  pub covered : (k : ℕ) → k < r.shift → lines_meet g es u fs (shifted k v) ≡ true
  pub free : r.shift ≡ 0 → (k : ℕ) → k ≤ r.room → lines_meet g es u fs (shifted k v) ≡ false
  pub short : r.room < limit

-- the least shift of the second below the bound at which no two strips hold pixels at most g apart, or the bound, and shifts from it on at
-- which none do either
pub record ClearStretch (g : ℕ) (es : List (List ℕ)) (u : Corner) (fs : List (List ℕ)) (v : Corner) (bound : ℕ) (r : Shifts) : Type 0 where
  pub least : r.first ≡ clear_below g es u fs v bound
  pub some : r.first < bound → r.first < r.end
  pub order : r.first ≤ r.end
  pub within : r.end ≤ bound
  pub free : (k : ℕ) → r.first ≤ k → k < r.end → stretches_meet g es u fs (shifted k v) ≡ false
