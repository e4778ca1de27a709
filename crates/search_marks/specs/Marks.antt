-- A string of bits that takes over the marks of another, moved up by each pixel of a piece's strips. Assumes nothing.
use Rattle.std.specs.Prelude.{Bool, ◌&&◌, ◌||◌, List, ◌≡◌, ℕ, ◌+◌, ◌-◌, ◌*◌, ◌/◌, ◌^◌, ◌<◌, ◌≤◌, leb, length}
use Rattle.model.specs.Bounded.{any_below}
use Rattle.model.specs.Strip.{Strip}
use Rattle.pair_overlap.specs.Meet.{strip_at}
use Rattle.bit_laws.specs.Bit.{bit_in, length_limit}
use Rattle.search_levels.specs.Levels.{level_bound}
use Rattle.search_marks.specs.declared.Span.{Span}

-- rows are less wide than this
abbrev pub width_limit : ℕ
width_limit = 1000

-- where a strip begins in a string whose rows are w bits wide, `up` rows up
abbrev pub place_of : ℕ → ℕ → Strip → ℕ
place_of w up e = (e.line + up) * w + e.first

-- some pixel of the strip, moved up by a mark of bs, lies at p
unfoldable pub strip_bit : List ℕ → ℕ → ℕ → Strip → ℕ → Bool
strip_bit bs w up e p = leb (place_of w up e) p && any_below e.count (λ t. leb t (p - place_of w up e) && bit_in bs (p - place_of w up e - t))

-- 2 ^ k is the largest power of two up to the count
pub record LevelOf (count k : ℕ) : Type 0 where
  pub low : 2 ^ k ≤ count
  pub high : count < 2 ^ k + 2 ^ k
  pub few : k < level_bound

-- r is the strip in such a string
pub record SpanOf (e : Strip) (w up : ℕ) (r : Span) : Type 0 where
  pub place_is : r.place ≡ place_of w up e
  pub count_is : r.count ≡ e.count

-- a strip of 1 to 2 ^ levels - 1 pixels lies in a string of `room` words, with a level's words to spare
pub record SpanFits (size levels room : ℕ) (r : Span) : Type 0 where
  pub some : 1 ≤ r.count
  pub few : r.count < 2 ^ levels
  pub within : (r.place + r.count) / 64 + size ≤ room
  pub below : r.place + r.count < length_limit

-- so does every strip
abbrev pub StripsFit : ℕ → ℕ → ℕ → ℕ → ℕ → List (List ℕ) → Type 0
StripsFit w up size levels room es =
    (i : ℕ) → i < length es → SpanFits size levels room (record { place = place_of w up (strip_at es i); count = (strip_at es i).count })

-- the marks of the first n strips are taken over: each of bs's, moved up by each pixel
pub record Made (xs bs : List ℕ) (es : List (List ℕ)) (w up n : ℕ) (ys : List ℕ) : Type 0 where
  pub same : length ys ≡ length xs
  pub each : (p : ℕ) → bit_in ys p ≡ (bit_in xs p || any_below n (λ i. strip_bit bs w up (strip_at es i) p))
