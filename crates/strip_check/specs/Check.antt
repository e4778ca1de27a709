-- Tests on single strips of a buffer and on neighbours. Assumes nothing.
use Rattle.std.specs.Prelude.{Bool, ◌&&◌, ◌||◌, List, [], ◌≡◌, ℕ, ◌+◌, ◌-◌, ◌≤◌, ◌<◌, leb, ltb, eqb, get_or}
use Rattle.model.specs.Strip.{Strip}
use Rattle.model.specs.Buffer.{strip_entry, entry_strip}
use Rattle.strip_check.specs.declared.Strip.{Strip as ReadStrip}

-- a strip as it is read
abbrev pub as_strip : ReadStrip → Strip
as_strip t = record { line = t.line; first = t.first; count = t.count }

-- the strip at place i of a buffer
abbrev pub strip_in : List (List ℕ) → ℕ → Strip
strip_in es i = entry_strip (get_or es i [])

-- the strip that an entry was read as: the entry has just its three numbers, and they are bytes
pub record ReadOf (e : List ℕ) (t : ReadStrip) : Type 0 where
  pub whole : e ≡ strip_entry (as_strip t)
  pub line : t.line ≤ 255
  pub first : t.first ≤ 255
  pub count : t.count ≤ 255

-- the strip is not empty and lies in so many lines of so many pixels
abbrev pub fits_in : ℕ → ℕ → Strip → Bool
fits_in length lines t = ltb 0 t.count && ltb t.line lines && leb (t.first + t.count) length

-- the strip stands before the other, by line, then first, with a gap in a line
abbrev pub stands_before : Strip → Strip → Bool
stands_before t u = ltb t.line u.line || (eqb t.line u.line && ltb (t.first + t.count) u.first)

-- the strip at place i is the first or stands behind the one before it
unfoldable pub follows : List (List ℕ) → ℕ → Bool
follows es i = eqb i 0 || stands_before (strip_in es (i - 1)) (strip_in es i)

-- the strip at place i lies in so many lines of so many pixels and stands behind the one before it
abbrev pub well_at : ℕ → ℕ → List (List ℕ) → ℕ → Bool
well_at length lines es i = fits_in length lines (strip_in es i) && follows es i

-- the strip holds the place along its line
abbrev pub reaches : ℕ → Strip → Bool
reaches a t = leb t.first a && ltb a (t.first + t.count)

-- the first n entries have just a strip's three numbers
abbrev pub Whole : List (List ℕ) → ℕ → Type 0
Whole es n = (k : ℕ) → k < n → get_or es k [] ≡ strip_entry (strip_in es k)
