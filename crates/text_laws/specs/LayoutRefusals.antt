-- Document 01, 'When a call says no', reading a layout: "No number comes without its cause." For each number the cause that its refusal
-- has, on the line that the refusal's first place names. Every clause says of that line that the lines before it are read, where it
-- begins, what it is to be, and what is wrong with it. Assumes nothing.
use Rattle.std.specs.Prelude.{Bool, true, false, ◌&&◌, List, ◌⊎◌, ◌≡◌, ℕ, suc, ◌<◌, eqb, length}
use Rattle.model.specs.Layout.{Job, Layout, allowed, inside}
use Rattle.model.specs.Refusal.{refused, given, wrong_form, out_of_range, no_such_piece, outside_sheet, wrong_length}
use Rattle.model.specs.Buffer.{is_turn}
use Rattle.model.specs.Text.{wrong, got, three_fields, four_fields, line_at, field}
use Rattle.model.specs.LayoutText.{layout_word, at_word, sheet_numbers, layout_line, PlacementLine, as_placement_line, placement_line, read_layout}
use Rattle.model.specs.declared.Refusal.{Refusal}
use Rattle.text_laws.specs.LinePlaces.{LineBegins, LineThere, refusal_on_line}

-- ── which line ──

-- the layout line and so many lines of pieces are read: the position and the number of the next line
pub data PlacementsBefore (j : Job) (text : List ℕ) : ℕ → ℕ → ℕ → Type 0 where
  no_placement : {p : ℕ} → layout_line j text ≡ given p → PlacementsBefore j text 0 p 2
  placement_then : {i p line : ℕ} {h : PlacementLine} → PlacementsBefore j text i p line → placement_line j text i p line ≡ given h
      → PlacementsBefore j text (suc i) h.next (suc line)

-- the line is that of the piece of that number: the lines before it are read
pub record PlacementPlace (j : Job) (text : List ℕ) (line : ℕ) : Type 0 where
  pub number : ℕ
  pub at : ℕ
  pub below : number < j.size.count
  pub before : PlacementsBefore j text number at line
  pub begins : LineBegins text line at

-- the line is behind the last one: the lines of all pieces are read
pub record LayoutEnd (j : Job) (text : List ℕ) (line : ℕ) : Type 0 where
  pub at : ℕ
  pub before : PlacementsBefore j text j.size.count at line
  pub begins : LineBegins text line at

-- the line is that of a piece, and its numbers are read
pub record PlacementNumbers (j : Job) (text : List ℕ) (line : ℕ) : Type 0 where
  pub place : PlacementPlace j text line
  pub said : PlacementLine
  pub numbers : List ℕ
  pub next : ℕ
  pub reads : line_at at_word four_fields text place.at ≡ got numbers next
  pub says : said ≡ as_placement_line numbers next

-- ── the causes ──

-- 1: the layout line or the line of a piece is not of its form, or a line is there that is one too many
pub data LayoutFormWrong (j : Job) (text : List ℕ) (line : ℕ) : Type 0 where
  wrong_layout_line : line ≡ 1 → line_at layout_word three_fields text 0 ≡ wrong → LayoutFormWrong j text line
  wrong_placement_line : (a : PlacementPlace j text line) → line_at at_word four_fields text a.at ≡ wrong → LayoutFormWrong j text line
  line_too_many : (a : LayoutEnd j text line) → a.at < length text → LayoutFormWrong j text line

-- the line names piece i and a turn by its degrees
abbrev pub names_piece : ℕ → List ℕ → Bool
names_piece i ks = eqb (field ks 0) i && is_turn (field ks 1)

-- 2: W, L, n of the layout line are read and are not the job's; or the line of a piece has another number, or no degrees of a turn
pub data LayoutOutOfRange (j : Job) (text : List ℕ) (line : ℕ) : Type 0 where
  sheet_unlike : (ks : List ℕ) (next : ℕ) → line ≡ 1 → line_at layout_word three_fields text 0 ≡ got ks next → (ks ≡ sheet_numbers j → ⊥)
      → LayoutOutOfRange j text line
  placement_out_of_range : (a : PlacementNumbers j text line) → names_piece a.place.number a.numbers ≡ false
      → LayoutOutOfRange j text line

-- 9: the line names the piece and a turn, and the turn is not allowed
pub record TurnNotAllowed (j : Job) (text : List ℕ) (line : ℕ) : Type 0 where
  pub piece : PlacementNumbers j text line
  pub ranges : names_piece piece.place.number piece.numbers ≡ true
  pub unallowed : allowed j piece.place.number piece.said.place.turn ≡ false

-- 10: the turn is allowed, and the placement is outside
pub record PlacementOutside (j : Job) (text : List ℕ) (line : ℕ) : Type 0 where
  pub piece : PlacementNumbers j text line
  pub ranges : names_piece piece.place.number piece.numbers ≡ true
  pub turn : allowed j piece.place.number piece.said.place.turn ≡ true
  pub outside : inside j piece.place.number piece.said.place ≡ false

-- 7: no line is named; the text is that of a layout of the job, which a buffer of n entries would take, and the buffer has another length
pub record LayoutLengthWrong (j : Job) (text : List ℕ) (layout_length line : ℕ) : Type 0 where
  pub unplaced : line ≡ 0
  pub layout : Layout
  pub readable : read_layout j text j.size.count ≡ given layout
  pub unequal : layout_length ≡ j.size.count → ⊥

-- ── a refusal ──

-- what is known of a refusal: its number is one of five, each has its cause on the line that the first place names, the line of
-- each but 7 begins somewhere in the text, and the second place is 0
pub record LayoutRefusalClaims (j : Job) (text : List ℕ) (layout_length : ℕ) (r : Refusal) : Type 0 where
  pub numbers : (r.number ≡ wrong_form) ⊎ ((r.number ≡ out_of_range)
      ⊎ ((r.number ≡ no_such_piece) ⊎ ((r.number ≡ outside_sheet) ⊎ (r.number ≡ wrong_length))))
  pub form : r.number ≡ wrong_form → LayoutFormWrong j text r.first
  pub range : r.number ≡ out_of_range → LayoutOutOfRange j text r.first
  pub turn : r.number ≡ no_such_piece → TurnNotAllowed j text r.first
  pub outside : r.number ≡ outside_sheet → PlacementOutside j text r.first
  pub buffer : r.number ≡ wrong_length → LayoutLengthWrong j text layout_length r.first
  pub line : (r.number ≡ wrong_length → ⊥) → LineThere text r.first
  pub second : r.second ≡ 0

-- each cause leads to its refusal, so that a text has one of them at most, on one line
pub record LayoutCausesRefuse (j : Job) (text : List ℕ) (layout_length : ℕ) : Type 0 where
  pub form : (line : ℕ) → LayoutFormWrong j text line → read_layout j text layout_length ≡ refused (refusal_on_line wrong_form line)
  pub range : (line : ℕ) → LayoutOutOfRange j text line → read_layout j text layout_length ≡ refused (refusal_on_line out_of_range line)
  pub turn : (line : ℕ) → TurnNotAllowed j text line → read_layout j text layout_length ≡ refused (refusal_on_line no_such_piece line)
  pub outside : (line : ℕ) → PlacementOutside j text line → read_layout j text layout_length ≡ refused (refusal_on_line outside_sheet line)
  pub buffer : (line : ℕ) → LayoutLengthWrong j text layout_length line
      → read_layout j text layout_length ≡ refused (refusal_on_line wrong_length line)
