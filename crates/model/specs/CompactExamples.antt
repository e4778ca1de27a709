-- Worked examples of pushing left and down (document 02, point 7), one test that the checker computes: no jump over a piece, left before down, pieces
-- by number, passes until one moves nothing, locked pieces, holes and notches, a gap, a used length that grows, and the causes of refusal. Assumes
-- nothing.
use Rattle.std.specs.Prelude.{Bool, true, ◌&&◌, List, [], ◌∷◌, ◌≡◌, refl, ℕ, length, replicate}
use Rattle.model.specs.Piece.{allows, tight}
use Rattle.model.specs.Overlap.{near_to, conflict}
use Rattle.model.specs.Layout.{pairs_with, pairs_from, pair_conflicts, inside, rightmost, leftmost, used_length, first_pair, conflicting_pair}
use Rattle.model.specs.Start.{insert, falling_order, free_only, stack_all, start}
use Rattle.model.specs.Refusal.{Outcome, refused, given, unless}
use Rattle.model.specs.Lent.{Lent, lent_by, job_of, pixel_start, lent_well, entry_in_range, entry_fits, sheet_in_range}
use Rattle.model.specs.Buffer.{turn_of_degrees, turn_of, entries_of, layout_of, same_numbers, same_entries}
use Rattle.model.specs.Compact.{Compacted, conflicts_with_some, fits_at, pixels_slid, slide_of, slide, until_still, corner_sum, left_then_down, push_piece}
use Rattle.model.specs.Compact.{push_below, compact}
use Rattle.model.specs.Calls.{allowed_degrees, some_turn_wrong, some_outside, layout_causes, compact_call, compact_after}

-- pieces of one table, lent for a sheet of so many rows and columns with a gap
unfoldable pub lent : ℕ → ℕ → ℕ → List (List ℕ) → List ℕ → Lent
lent rows columns gap table pixels =
    lent_by (record { rows = rows; columns = columns; count = length table; gap = gap }) table pixels

-- a single pixel, free or locked, and a bar of two columns
unfoldable pub free : List ℕ
free = 1 ∷ 1 ∷ 1 ∷ 0 ∷ []

unfoldable pub locked : List ℕ
locked = 1 ∷ 1 ∷ 1 ∷ 1 ∷ []

unfoldable pub bar : List ℕ
bar = 2 ∷ 1 ∷ 1 ∷ 0 ∷ []

-- a placement in turn 0
unfoldable pub at : ℕ → ℕ → List ℕ
at x y = 0 ∷ x ∷ y ∷ []

-- what is told of a push: a refusal's number and places, or the pixels slid and the layout
unfoldable pub told : Outcome Compacted → List (List ℕ)
told (refused r) = (r.number ∷ r.first ∷ r.second ∷ []) ∷ []
told (given c) = (c.slid ∷ []) ∷ entries_of c.layout

-- single pixels pushed from their places
unfoldable pub pushed : ℕ → ℕ → ℕ → List (List ℕ) → List (List ℕ) → List (List ℕ)
pushed rows columns gap table es = told (compact_call (lent rows columns gap table (replicate 4 1)) es)

-- a pixel stops at the locked one before it, though the cloth behind that is free; beside a gap of 1 it stops one pixel earlier
unfoldable pub stops : Bool
stops =
    same_entries (pushed 1 4 0 (locked ∷ free ∷ []) (at 1 0 ∷ at 3 0 ∷ [])) ((1 ∷ []) ∷ at 1 0 ∷ at 2 0 ∷ [])
    && same_entries (pushed 1 5 1 (locked ∷ free ∷ []) (at 1 0 ∷ at 4 0 ∷ [])) ((1 ∷ []) ∷ at 1 0 ∷ at 3 0 ∷ [])

-- left comes first: down first it would end to the right of the locked pixel
unfoldable pub left_first : Bool
left_first = same_entries (pushed 3 3 0 (locked ∷ free ∷ []) (at 1 0 ∷ at 2 2 ∷ [])) ((4 ∷ []) ∷ at 1 0 ∷ at 0 0 ∷ [])

-- the first pixel is blocked until the second has slid: it takes a second pass
unfoldable pub two_passes : Bool
two_passes = same_entries (pushed 1 3 0 (free ∷ free ∷ []) (at 2 0 ∷ at 1 0 ∷ [])) ((2 ∷ []) ∷ at 1 0 ∷ at 0 0 ∷ [])

-- the pixel has the lower number, so that it comes to the corner before the longer bar
unfoldable pub by_number : Bool
by_number = same_entries (pushed 2 4 0 (free ∷ bar ∷ []) (at 2 1 ∷ at 2 0 ∷ [])) ((4 ∷ []) ∷ at 0 0 ∷ at 1 0 ∷ [])

-- a pixel slides into the notch of an L, and one in a ring's hole stays there, with the ring, which it holds
unfoldable pub L : List ℕ
L = 2 ∷ 2 ∷ 1 ∷ 0 ∷ []

unfoldable pub ring : List ℕ
ring = 3 ∷ 3 ∷ 1 ∷ 0 ∷ []

unfoldable pub notches : Bool
notches =
    same_entries (told (compact_call (lent 2 4 0 (L ∷ free ∷ []) (1 ∷ 1 ∷ 1 ∷ 0 ∷ 1 ∷ [])) (at 0 0 ∷ at 3 1 ∷ []))) ((2 ∷ []) ∷ at 0 0 ∷ at 1 1 ∷ [])
    && same_entries
    (told (compact_call (lent 4 4 0 (ring ∷ free ∷ []) (1 ∷ 1 ∷ 1 ∷ 1 ∷ 0 ∷ 1 ∷ 1 ∷ 1 ∷ 1 ∷ 1 ∷ [])) (at 1 1 ∷ at 2 2 ∷ [])))
    ((0 ∷ []) ∷ at 1 1 ∷ at 2 2 ∷ [])

-- the lower pixel cannot follow the upper one to the corner: the used length grows from 1 to 2, and the right end stays 2
unfoldable pub two_pixels : Lent
two_pixels = lent 2 2 0 (free ∷ free ∷ []) (replicate 2 1)

unfoldable pub grows : Bool
grows =
    same_entries (told (compact_call two_pixels (at 1 1 ∷ at 1 0 ∷ []))) ((2 ∷ []) ∷ at 0 0 ∷ at 1 0 ∷ [])
    && same_numbers (lengths (at 1 1 ∷ at 1 0 ∷ [])) (1 ∷ 2 ∷ []) && same_numbers (lengths (at 0 0 ∷ at 1 0 ∷ [])) (2 ∷ 2 ∷ [])
  where
    lengths : List (List ℕ) → List ℕ
    lengths es = used_length (job_of two_pixels) (layout_of es) ∷ rightmost (job_of two_pixels) (layout_of es) 2 ∷ []

-- of a start layout, a bar of three columns with a pixel on it and two pixels to the right of it, the upper pixel on the right slides over the bar
unfoldable pub started : Bool
started =
    same_entries (told (compact_call job (entries_of (start (job_of job) (layout_of (replicate 4 (at 0 0))))))) ((2 ∷ []) ∷ at 0 0 ∷ at 0 1 ∷ at 3 0 ∷ at 1 1 ∷ [])
  where
    job : Lent
    job = lent 2 4 0 ((3 ∷ 1 ∷ 1 ∷ 0 ∷ []) ∷ free ∷ free ∷ free ∷ []) (replicate 6 1)

-- 8 the job, 7 the length, 9 a turn, 10 outside, 12 the pair, each before the next; a refusal leaves the buffer
unfoldable pub refusals : Bool
refusals =
    same_entries (pushed 1 4 9 (free ∷ free ∷ []) []) ((8 ∷ 0 ∷ 0 ∷ []) ∷ [])
    && same_entries (pushed 1 4 0 (free ∷ free ∷ []) ((90 ∷ 9 ∷ 0 ∷ []) ∷ [])) ((7 ∷ 0 ∷ 0 ∷ []) ∷ [])
    && same_entries (pushed 1 4 0 (free ∷ free ∷ []) ((90 ∷ 9 ∷ 0 ∷ []) ∷ at 1 0 ∷ [])) ((9 ∷ 0 ∷ 0 ∷ []) ∷ [])
    && same_entries (pushed 1 4 0 (free ∷ free ∷ []) (at 4 0 ∷ at 4 0 ∷ [])) ((10 ∷ 0 ∷ 0 ∷ []) ∷ [])
    && same_entries (pushed 1 4 0 (free ∷ free ∷ free ∷ []) (at 0 0 ∷ at 3 0 ∷ at 3 0 ∷ [])) ((12 ∷ 1 ∷ 2 ∷ []) ∷ [])
    && same_entries (compact_after (at 1 0 ∷ at 1 0 ∷ []) (compact_call two_pixels (at 1 0 ∷ at 1 0 ∷ []))) (at 1 0 ∷ at 1 0 ∷ [])
    && same_entries (compact_after (at 1 1 ∷ at 1 0 ∷ []) (compact_call two_pixels (at 1 1 ∷ at 1 0 ∷ []))) (at 0 0 ∷ at 1 0 ∷ [])

-- all of them
unfoldable pub compact_examples : Bool
compact_examples = stops && left_first && two_passes && by_number && notches && grows && started && refusals
