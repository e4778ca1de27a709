-- The places along a line at which two pieces conflict by a gap, one bit a place: place m is bit m of a list of words. Assumes nothing.
use Rattle.std.specs.Prelude.{Bool, true, ◌&&◌, ◌||◌, List, ◌⊎◌, ◌≡◌, ℕ, ◌+◌, ◌*◌, ◌<◌, ◌≤◌, leb, ltb, length}
use Rattle.model.specs.Strip.{Strip}
use Rattle.bit_laws.specs.Bit.{bit_at, bit_in}
use Rattle.pair_overlap.specs.Meet.{strip_at, shifted, meet_in_line, lines_meet, stretches_meet}
use Rattle.pair_overlap.specs.declared.Corner.{Corner}
use Rattle.pair_nofit.specs.declared.Placed.{Placed}
use Rattle.pair_nofit.specs.declared.Covered.{Covered}

-- some strips are at most g apart once the second is shifted by k
abbrev pub meets_at : ℕ → List (List ℕ) → Corner → List (List ℕ) → Corner → ℕ → Bool
meets_at g es u fs v k = stretches_meet g es u fs (shifted k v)

-- the marks of as many shifts of the second as there are bits
pub record ShiftsMarked (g : ℕ) (es : List (List ℕ)) (u : Corner) (fs : List (List ℕ)) (v : Corner) (before after : List ℕ) : Type 0 where
  pub same : length after ≡ length before
  pub each : (m : ℕ) → m < length after * 64 → bit_in after m ≡ meets_at g es u fs v m

-- ── how the marks are made ──
-- Two strips in one line are at most g apart at an interval of shifts: its bits are set, and none is ever cleared.

-- the number lies in the interval
abbrev pub in_interval : ℕ → ℕ → ℕ → Bool
in_interval low high m = leb low m && ltb m high

-- the bits of the interval in the word whose first place is `start`
pub record WordBits (low high start word : ℕ) : Type 0 where
  pub each : (i : ℕ) → i < 64 → bit_at word i ≡ in_interval low high (start + i)

-- the interval marked beside what was marked, as far as the words go
pub record IntervalMarked (low high : ℕ) (before after : List ℕ) : Type 0 where
  pub same : length after ≡ length before
  pub each : (m : ℕ) → m < length before * 64 → bit_in after m ≡ (bit_in before m || in_interval low high m)

-- all shifts that are said to be covered are marked, as far as the words go
abbrev pub Covers : Covered → List ℕ → Type 0
Covers c marks = (m : ℕ) → m < length marks * 64 → c.low ≤ m → m < c.high → bit_in marks m ≡ true

-- every number of r is one of the covered ones or of the interval
pub record Joined (c : Covered) (low high : ℕ) (r : Covered) : Type 0 where
  pub each : (m : ℕ) → r.low ≤ m → m < r.high → ((c.low ≤ m) × (m < c.high)) ⊎ ((low ≤ m) × (m < high))

-- no mark was lost between two contents of the words, and a place that the later one marks was marked, or strips in one line are at most g apart
-- there
pub record Grown (g : ℕ) (es : List (List ℕ)) (u : Corner) (fs : List (List ℕ)) (v : Corner) (before after : List ℕ) : Type 0 where
  pub same : length after ≡ length before
  pub grows : (m : ℕ) → bit_in before m ≡ true → bit_in after m ≡ true
  pub sound : (m : ℕ) → bit_in after m ≡ true → (bit_in before m ≡ true) ⊎ (lines_meet g es u fs (shifted m v) ≡ true)

-- every place where strip i of the first and strip l of the second are in one line and at most g apart is marked
abbrev pub MeetingsKept : ℕ → List (List ℕ) → Corner → List (List ℕ) → Corner → List ℕ → ℕ → ℕ → Type 0
MeetingsKept g es u fs v marks i l =
    (m : ℕ) → m < length marks * 64 → meet_in_line g (strip_at es i) u (strip_at fs l) (shifted m v) ≡ true → bit_in marks m ≡ true

-- what one strip of the first stretch adds: all its meetings with the strips of the second from j on
pub record LineMarked (g : ℕ) (es : List (List ℕ)) (u : Corner) (fs : List (List ℕ)) (v : Corner) (i j : ℕ) (before after : List ℕ) : Type 0 where
  pub grown : Grown g es u fs v before after
  pub kept : (l : ℕ) → j ≤ l → l < length fs → MeetingsKept g es u fs v after i l

-- what all strips add
pub record AllMarked (g : ℕ) (es : List (List ℕ)) (u : Corner) (fs : List (List ℕ)) (v : Corner) (before after : List ℕ) : Type 0 where
  pub grown : Grown g es u fs v before after
  pub kept : (i l : ℕ) → i < length es → l < length fs → MeetingsKept g es u fs v after i l

-- what all strips in lines at most g apart add
pub record GapMarked (g : ℕ) (es : List (List ℕ)) (u : Corner) (fs : List (List ℕ)) (v : Corner) (before after : List ℕ) : Type 0 where
  pub same : length after ≡ length before
  pub sound : (m : ℕ) → bit_in after m ≡ true → (bit_in before m ≡ true) ⊎ (meets_at g es u fs v m ≡ true)
  pub kept : (m : ℕ) → m < length after * 64 → meets_at g es u fs v m ≡ true → bit_in after m ≡ true

-- where a line begins among the strips from j on: those before r lie in earlier lines, those from r on in that line or a later one
pub record LineStart (fs : List (List ℕ)) (across line j r : ℕ) : Type 0 where
  pub low : j ≤ r
  pub within : r ≤ length fs
  pub before : (l : ℕ) → j ≤ l → l < r → (strip_at fs l).line + across < line
  pub from : (l : ℕ) → r ≤ l → l < length fs → line ≤ (strip_at fs l).line + across

-- a strip of a piece at the corner, made longer by `spread`; its first and count are bytes
pub record PlacedAt (s : Strip) (u : Corner) (spread : ℕ) (r : Placed) : Type 0 where
  pub line : r.line ≡ s.line + u.across
  pub begin : r.begin ≡ s.first + u.along
  pub end : r.end ≡ s.first + u.along + s.count + spread
  pub first : s.first < 256
  pub count : s.count < 256
