-- Document 01, 'When a call says no': a call's outcome is a refusal or what the call gives, and of several causes the first in
-- the call's order wins. Assumes nothing.
use Rattle.std.specs.Prelude.{Bool, true, false, List, [], ◌∷◌, ℕ}
use Rattle.model.specs.declared.Refusal.{Refusal}

-- what a call comes to
pub data Outcome (A : Type 0) : Type 0 where
  refused : Refusal → Outcome A
  given : A → Outcome A

-- a cause of refusal: whether it is there, its number and its two places
pub record Cause : Type 0 where
  pub there : Bool
  pub number : ℕ
  pub first : ℕ
  pub second : ℕ

-- a cause without places
abbrev pub cause : ℕ → Bool → Cause
cause number there = record { there = there; number = number; first = 0; second = 0 }

-- the refusal with a number and no places
abbrev pub plain_refusal : ℕ → Refusal
plain_refusal number = record { number = number; first = 0; second = 0 }

-- the refusal that a cause leads to
abbrev pub refusal_of : Cause → Refusal
refusal_of c = record { number = c.number; first = c.first; second = c.second }

-- the first cause that is there refuses; else the value is given
unfoldable pub unless : {A : Type 0} → List Cause → A → Outcome A
unless [] a = given a
unless (c ∷ cs) a = elim c.there [ true ↦ refused (refusal_of c) | false ↦ unless cs a ]

-- ── document 01's numbers, and document 02's from 15 on ──

-- wrong form of a line
abbrev pub wrong_form : ℕ
wrong_form = 1

-- a number out of range, a wrong piece number, an even sum of turns
abbrev pub out_of_range : ℕ
out_of_range = 2

-- W × L above 65,536
abbrev pub sheet_too_large : ℕ
sheet_too_large = 3

-- box areas so far above 65,536
abbrev pub boxes_too_large : ℕ
boxes_too_large = 4

-- a box is loose
abbrev pub loose_box : ℕ
loose_box = 5

-- a box longer or wider than the sheet
abbrev pub box_too_large : ℕ
box_too_large = 6

-- a buffer too short, or not of the exact length
abbrev pub wrong_length : ℕ
wrong_length = 7

-- lent data that no call gives
abbrev pub not_ours : ℕ
not_ours = 8

-- no such piece, a turn not allowed, a wrong list of turns, a pair of a piece with itself
abbrev pub no_such_piece : ℕ
no_such_piece = 9

-- a placement outside the sheet
abbrev pub outside_sheet : ℕ
outside_sheet = 10

-- no inside corner on the line
abbrev pub empty_line : ℕ
empty_line = 11

-- two pieces conflict; with a gap of 0, they share a pixel
abbrev pub pieces_conflict : ℕ
pieces_conflict = 12

-- the piece is laid already
abbrev pub laid_already : ℕ
laid_already = 13

-- the piece is not laid
abbrev pub not_laid : ℕ
not_laid = 14

-- the piece is locked (document 02, point 6)
abbrev pub piece_locked : ℕ
piece_locked = 15

-- a lock is set from the planner's station (document 02, point 6)
abbrev pub not_the_cutter : ℕ
not_the_cutter = 16
