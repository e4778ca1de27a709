-- Document 01, 'Start, layout text, sheet' and 'When a call says no': a layout as text, `layout,1,W,L,n` and for each piece
-- `at,i,turn,x,y`, written and read. Turns are in degrees. Assumes nothing.
use Rattle.std.specs.Prelude.{not, ◌&&◌, List, [], ◌∷◌, ◌++◌, ℕ, zero, suc, eqb, length}
use Rattle.model.specs.Layout.{Job, Layout, allowed, inside}
use Rattle.model.specs.Refusal.{Outcome, given, Cause, cause, unless, wrong_form, out_of_range, no_such_piece, outside_sheet, wrong_length}
use Rattle.model.specs.Buffer.{is_turn, placement, entry_of}
use Rattle.model.specs.Text.{bytes, three_fields, four_fields, line_at, line_text, field, cause_in, formed, and_then}
use Rattle.model.specs.declared.Placement.{Placement}

-- ── writing ──

-- the word that begins the layout line; 1 is the version
abbrev pub layout_word : List ℕ
layout_word = bytes "layout,1,"

-- the word that begins the line of a piece
abbrev pub at_word : List ℕ
at_word = bytes "at,"

-- the line of piece i
abbrev pub placement_text : ℕ → Placement → List ℕ
placement_text i p = line_text at_word four_fields (i ∷ entry_of p)

-- the lines of the pieces from number i on
unfoldable pub placements_text : ℕ → Layout → List ℕ
placements_text i [] = []
placements_text i (p ∷ v) = placement_text i p ++ placements_text (suc i) v

-- the numbers W, L, n
abbrev pub sheet_numbers : Job → List ℕ
sheet_numbers j = j.size.rows ∷ j.size.columns ∷ j.size.count ∷ []

-- the text of a layout
unfoldable pub layout_text : Job → Layout → List ℕ
layout_text j v = line_text layout_word three_fields (sheet_numbers j) ++ placements_text 0 v

-- ── reading ──

-- W, L or n is unlike the job's
abbrev pub layout_line_causes : Job → List ℕ → List Cause
layout_line_causes j ks =
    cause_in 1 out_of_range (not (eqb (field ks 0) j.size.rows && eqb (field ks 1) j.size.columns && eqb (field ks 2) j.size.count)) ∷ []

-- the layout line, `layout,1,W,L,n`: the position after it
unfoldable pub layout_line : Job → List ℕ → Outcome ℕ
layout_line j text = formed 1 (line_at layout_word three_fields text 0) (λ ks next. unless (layout_line_causes j ks) next)

-- what the line of a piece says: its placement; and the position after it
pub record PlacementLine : Type 0 where
  pub place : Placement
  pub next : ℕ

-- the numbers i, turn, x, y that are read, and the position after them
abbrev pub as_placement_line : List ℕ → ℕ → PlacementLine
as_placement_line ks next = record { place = placement (field ks 1) (field ks 2) (field ks 3); next = next }

-- the line of piece i: i unlike or the degrees of no turn, a turn that is not allowed, a placement outside
abbrev pub placement_causes : ℕ → Job → ℕ → List ℕ → Placement → List Cause
placement_causes line j i ks p =
    cause_in line out_of_range (not (eqb (field ks 0) i && is_turn (field ks 1)))
    ∷ cause_in line no_such_piece (not (allowed j i p.turn))
    ∷ cause_in line outside_sheet (not (inside j i p)) ∷ []

-- the line of piece i at position p, `at,i,turn,x,y`
unfoldable pub placement_line : Job → List ℕ → ℕ → ℕ → ℕ → Outcome PlacementLine
placement_line j text i p line =
    formed line (line_at at_word four_fields text p)
    (λ ks next. unless (placement_causes line j i ks (as_placement_line ks next).place) (as_placement_line ks next))

-- the lines of `left` pieces from number i on, the first at position p on the given line; nothing follows the last
unfoldable pub placements_at : Job → List ℕ → ℕ → ℕ → ℕ → ℕ → Outcome Layout
placements_at j text zero i p line = unless (cause_in line wrong_form (not (eqb p (length text))) ∷ []) []
placements_at j text (suc left) i p line =
    and_then (placement_line j text i p line)
    (λ h. and_then (placements_at j text left (suc i) h.next (suc line)) (λ v. given (h.place ∷ v)))

-- reading a layout of the job from its text into a buffer of the given length
unfoldable pub read_layout : Job → List ℕ → ℕ → Outcome Layout
read_layout j text layout_length =
    and_then (layout_line j text)
    (λ p.
    and_then (placements_at j text j.size.count 0 p 2)
    (λ v. unless (cause wrong_length (not (eqb layout_length j.size.count)) ∷ []) v))
