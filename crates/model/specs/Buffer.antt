-- How turns, placements, strips, runs and pixels stand in lent buffers: a turn as its degrees, a placement as three numbers
-- (degrees, x, y), a strip as three numbers (line, first, count), a run of offsets as two (first, count), a pixel as 1 or 0,
-- and how a descent ended as one number. Assumes nothing.
use Rattle.std.specs.Prelude.{Bool, true, false, ◌&&◌, List, [], ◌∷◌, ◌++◌, map, ℕ, zero, suc, ◌*◌, ◌/◌, ◌%◌, eqb, ℤ, pos, length, get_or, drop}
use Rattle.std.proofs.Math.Option.{Option, none, some}
use Rattle.model.specs.Bounded.{one_if}
use Rattle.model.specs.Piece.{Shape, degrees}
use Rattle.model.specs.Strip.{Strip}
use Rattle.model.specs.Overlap.{OffsetRun}
use Rattle.model.specs.Layout.{Layout}
use Rattle.model.specs.declared.Turn.{Turn}
use Rattle.model.specs.declared.Turn.TheVariants.{Zero, Quarter, Half, ThreeQuarters}
use Rattle.model.specs.declared.Placement.{Placement}
use Rattle.model.specs.declared.Direction.{Direction}
use Rattle.model.specs.declared.Direction.TheVariants.{Horizontal, Vertical}
use Rattle.model.specs.declared.End.{End}
use Rattle.model.specs.declared.End.TheVariants.{Clear, Settled, Spent}

-- ── turns ──

-- the turn of so many degrees, if there is one
unfoldable pub turn_of_degrees : ℕ → Option Turn
turn_of_degrees d =
    elim (eqb d 0) [
      | true ↦ some Zero
      | false ↦
          elim (eqb d 90) [
            | true ↦ some Quarter
            | false ↦ elim (eqb d 180) [ true ↦ some Half | false ↦ elim (eqb d 270) [ true ↦ some ThreeQuarters | false ↦ none ] ]
          ]
    ]

-- the degrees are those of a turn that passes
abbrev pub turn_passes : (Turn → Bool) → ℕ → Bool
turn_passes test d = elim (turn_of_degrees d) [ none ↦ false | some t ↦ test t ]

-- the degrees are those of a turn
unfoldable pub is_turn : ℕ → Bool
is_turn d = turn_passes (λ t. true) d

-- the turn of the degrees, turn 0 where they are those of none
unfoldable pub turn_of : ℕ → Turn
turn_of d = elim (turn_of_degrees d) [ none ↦ Zero | some t ↦ t ]

-- ── placements ──

-- the placement of given degrees, column and row
abbrev pub placement : ℕ → ℕ → ℕ → Placement
placement d x y = record { turn = turn_of d; x = record { 0 = x }; y = record { 0 = y } }

-- a placement as an entry of a layout buffer: degrees, x, y
abbrev pub entry_of : Placement → List ℕ
entry_of p = degrees p.turn ∷ p.x.0 ∷ p.y.0 ∷ []

-- an entry of a layout buffer as a placement
abbrev pub placement_of : List ℕ → Placement
placement_of e = placement (get_or e 0 0) (get_or e 1 0) (get_or e 2 0)

-- a layout as a layout buffer
abbrev pub entries_of : Layout → List (List ℕ)
entries_of v = map entry_of v

-- a layout buffer as a layout
abbrev pub layout_of : List (List ℕ) → Layout
layout_of es = map placement_of es

-- ── strips, runs, pixels ──

-- a strip as an entry of a store: line, first, count
abbrev pub strip_entry : Strip → List ℕ
strip_entry s = s.line ∷ s.first ∷ s.count ∷ []

-- an entry of a store as a strip
abbrev pub entry_strip : List ℕ → Strip
entry_strip e = record { line = get_or e 0 0; first = get_or e 1 0; count = get_or e 2 0 }

-- a run of offsets as an entry of a run buffer: first, count
abbrev pub run_entry : OffsetRun → List ℤ
run_entry r = r.first ∷ pos r.count ∷ []

-- the bytes of a set from number k on, row by row: 1 for a pixel, else 0
unfoldable pub bytes_from : Shape → ℕ → ℕ → List ℕ
bytes_from s k zero = []
bytes_from s k (suc left) = one_if (s.has (k % s.columns) (k / s.columns)) ∷ bytes_from s (suc k) left

-- the bytes of a set, as the pixel store holds them
abbrev pub bytes_of : Shape → List ℕ
bytes_of s = bytes_from s 0 (s.columns * s.rows)

-- ── how a descent ended ──

-- a direction as a number: 0 horizontal, 1 vertical
abbrev pub direction_number : Direction → ℕ
direction_number Horizontal = 0
direction_number Vertical = 1

-- the direction of a number: 0 is horizontal, every other one vertical
abbrev pub direction_of : ℕ → Direction
direction_of vertical = elim (eqb vertical 0) [ true ↦ Horizontal | false ↦ Vertical ]

-- the end of a descent as a number
abbrev pub end_number : End → ℕ
end_number Clear = 0
end_number Settled = 1
end_number Spent = 2

-- ── lists ──

-- what a lent buffer holds after a call wrote to its front: what lies beyond is untouched
abbrev pub filled {ℓ} : {A : Type ℓ} → List A → List A → List A
filled written old = written ++ drop (length written) old

-- two lists of numbers are equal
unfoldable pub same_numbers : List ℕ → List ℕ → Bool
same_numbers [] [] = true
same_numbers [] (b ∷ ys) = false
same_numbers (a ∷ xs) [] = false
same_numbers (a ∷ xs) (b ∷ ys) = eqb a b && same_numbers xs ys

-- two lists of entries are equal
unfoldable pub same_entries : List (List ℕ) → List (List ℕ) → Bool
same_entries [] [] = true
same_entries [] (e ∷ ys) = false
same_entries (d ∷ xs) [] = false
same_entries (d ∷ xs) (e ∷ ys) = same_numbers d e && same_entries xs ys
