-- Document 01, 'Job text', 'Start, layout text, sheet' and 'When a call says no', and document 02's versions 2 and 3 of a job: a job and a
-- layout that are read and written, and damaged texts that are refused, one test that the checker computes; and one of which row line is
-- y = 0. Assumes nothing.
use Rattle.std.specs.Prelude.{Bool, true, false, ◌&&◌, List, [], ◌∷◌, ◌++◌, ◌≡◌, refl, ℕ, replicate}
use Prim.Native.String.{String, ◌++◌ as ◌++ᵗ◌}
use Rattle.model.specs.Bounded.{one_if}
use Rattle.model.specs.Piece.{Shape, tight, allows}
use Rattle.model.specs.Layout.{Job, Layout, inside}
use Rattle.model.specs.Refusal.{Outcome, refused, given, unless}
use Rattle.model.specs.Lent.{Lent, job_of, pixel_start}
use Rattle.model.specs.Text.{bytes, stands_at, digits_from, number_at, field_at, fields_at, decimal, fields_text}
use Rattle.model.specs.JobText.{PieceLine, Pieces, job_line, piece_line, mark_at, marks_at, row_at, rows_at, piece_at, pieces_at, read_job}
use Rattle.model.specs.Buffer.{same_numbers, turn_of_degrees, is_turn, turn_of, entry_of}
use Rattle.model.specs.LayoutText.{placements_text, layout_text, layout_line, placement_line, placements_at, read_layout}
use Rattle.model.specs.Start.{start_of_all, stack_all, falling_order, insert}

-- ── answers written out as numbers ──

-- lists of numbers one after the other
unfoldable pub joined : List (List ℕ) → List ℕ
joined [] = []
joined (ks ∷ kss) = ks ++ joined kss

-- an outcome written out: 0 and the refusal, or 1 and what is given
unfoldable pub flat : {A : Type 0} → (A → List ℕ) → Outcome A → List ℕ
flat f (refused r) = 0 ∷ r.number ∷ r.first ∷ r.second ∷ []
flat f (given a) = 1 ∷ f a

-- a job written out: W, L, n, g, the table, the pixel bytes
unfoldable pub flat_lent : Lent → List ℕ
flat_lent k = k.size.rows ∷ k.size.columns ∷ k.size.count ∷ k.size.gap ∷ joined k.table ++ k.pixels

-- a piece line written out: i, l, w, o, the lock, the position after it
unfoldable pub flat_piece : PieceLine → List ℕ
flat_piece h = h.number ∷ h.columns ∷ h.rows ∷ h.turns ∷ h.lock ∷ h.next ∷ []

-- pieces written out: the table, the pixel bytes
unfoldable pub flat_pieces : Pieces → List ℕ
flat_pieces r = joined r.table ++ r.pixels

-- a layout written out: degrees, x, y of each piece
unfoldable pub flat_layout : Layout → List ℕ
flat_layout [] = []
flat_layout (p ∷ v) = entry_of p ++ flat_layout v

-- ── reading a job ──

-- row y of a set of 3 columns: 1 for a pixel, else 0
unfoldable pub row_of : Shape → ℕ → List ℕ
row_of s y = one_if (s.has 0 y) ∷ one_if (s.has 1 y) ∷ one_if (s.has 2 y) ∷ []

-- the first row line is y = 0: of the row lines `###` and `#..` row 0 has three pixels, row 1 has one
unfoldable pub first_row_line : Bool
first_row_line =
    same_numbers
    (flat (λ l. row_of ((job_of l).piece 0).shape 0 ++ row_of ((job_of l).piece 0).shape 1)
    (read_job (bytes "job,1,2,3,1\npiece,0,3,2,1\nrow,###\nrow,#..\n") 1 6))
    (1 ∷ 1 ∷ 1 ∷ 1 ∷ 1 ∷ 0 ∷ 0 ∷ [])

-- two full 2 × 2 pieces, o = 1
abbrev pub squares : String
squares = "piece,0,2,2,1\nrow,##\nrow,##\npiece,1,2,2,1\nrow,##\nrow,##\n"

-- the example: they lie on a sheet of 2 rows and 4 columns
unfoldable pub example : Lent
example =
    record {
      size = record { rows = 2; columns = 4; count = 2; gap = 0 };
      table = (2 ∷ 2 ∷ 1 ∷ 0 ∷ []) ∷ (2 ∷ 2 ∷ 1 ∷ 0 ∷ []) ∷ [];
      pixels = 1 ∷ 1 ∷ 1 ∷ 1 ∷ 1 ∷ 1 ∷ 1 ∷ 1 ∷ [];
    }

-- the same job with another gap
unfoldable pub with_gap : ℕ → Lent → Lent
with_gap g k =
    record {
      size = record { rows = k.size.rows; columns = k.size.columns; count = k.size.count; gap = g };
      table = k.table;
      pixels = k.pixels;
    }

-- what reading comes to, with buffers of the given lengths
unfoldable pub read_with : ℕ → ℕ → String → List ℕ
read_with tableLength pixelsLength text = flat flat_lent (read_job (bytes text) tableLength pixelsLength)

-- the text is refused with the number at the line, whatever the buffers
unfoldable pub refuses : String → ℕ → ℕ → Bool
refuses text number line =
    same_numbers (read_with 64 65536 text) (0 ∷ number ∷ line ∷ 0 ∷ []) && same_numbers (read_with 0 0 text) (0 ∷ number ∷ line ∷ 0 ∷ [])

-- the example is read with buffers that just suffice and with longer ones; rows stand bottom first, pieces one after the other;
-- shorter buffers are refused
unfoldable pub reads : Bool
reads =
    same_numbers (read_with 2 8 ("job,1,2,4,2\n" ++ᵗ squares)) (1 ∷ flat_lent example)
    && same_numbers (read_with 64 65536 ("job,1,2,4,2\n" ++ᵗ squares)) (1 ∷ flat_lent example)
    && same_numbers (read_with 1 6 "job,1,12,34,1\npiece,0,3,2,15\nrow,##.\nrow,#.#\n")
    (1 ∷ 12 ∷ 34 ∷ 1 ∷ 0 ∷ 3 ∷ 2 ∷ 15 ∷ 0 ∷ 1 ∷ 1 ∷ 0 ∷ 1 ∷ 0 ∷ 1 ∷ [])
    && same_numbers (read_with 2 7 "job,1,2,3,2\npiece,0,3,2,15\nrow,##.\nrow,#.#\npiece,1,1,1,3\nrow,#\n")
    (1 ∷ 2 ∷ 3 ∷ 2 ∷ 0 ∷ 3 ∷ 2 ∷ 15 ∷ 0 ∷ 1 ∷ 1 ∷ 3 ∷ 0 ∷ 1 ∷ 1 ∷ 0 ∷ 1 ∷ 0 ∷ 1 ∷ 1 ∷ [])
    && same_numbers (read_with 1 8 ("job,1,2,4,2\n" ++ᵗ squares)) (0 ∷ 7 ∷ 0 ∷ 0 ∷ [])
    && same_numbers (read_with 2 7 ("job,1,2,4,2\n" ++ᵗ squares)) (0 ∷ 7 ∷ 0 ∷ 0 ∷ [])

-- wrong form of the job line: no text, no line end, another word, no version, a leading zero, six digits, a sign, no number, the
-- bytes before 0 and after 9, a field too few or too many, a byte before the line end, a byte 0
unfoldable pub job_line_form : Bool
job_line_form =
    refuses "" 1 1 && refuses "job,1,2,4,2" 1 1 && refuses "Job,1,2,4,2\n" 1 1 && refuses "job,,2,4,2\n" 1 1
    && refuses "job,1,02,4,2\n" 1 1
    && refuses "job,1,00,4,2\n" 1 1
    && refuses "job,1,2,123456,2\n" 1 1
    && refuses "job,1,2,-4,2\n" 1 1
    && refuses "job,1,2,,2\n" 1 1
    && refuses "job,1,2,/,2\n" 1 1
    && refuses "job,1,2,:,2\n" 1 1
    && refuses "job,1,2,4\n" 1 1
    && refuses "job,1,2,4,2,1\n" 1 1
    && refuses "job,1,2,4,2\r\n" 1 1
    && refuses "job,1,2,4,2\0\n" 1 1

-- job lines out of range, a sheet too large, form before range, and the largest numbers, which pass: line 2 is what is missing
unfoldable pub job_line_range : Bool
job_line_range =
    refuses "job,1,0,4,2\n" 2 1 && refuses "job,1,513,4,2\n" 2 1 && refuses "job,1,1,4097,2\n" 2 1 && refuses "job,1,2,99999,2\n" 2 1
    && refuses "job,1,2,4,0\n" 2 1
    && refuses "job,1,2,4,65\n" 2 1
    && refuses "job,1,17,4096,2\n" 3 1
    && refuses "job,1,512,4096,65\n" 2 1
    && refuses "job,1,0,4,x\n" 1 1
    && refuses "job,1,512,128,64\n" 1 2
    && refuses "job,1,16,4096,64\n" 1 2

-- version 2: the example with the gaps 1, 0 and 8; a gap above 8, also where the sheet is too large; W out of range; and the largest
-- numbers, which pass: line 2 is what is missing
unfoldable pub gap_lines : Bool
gap_lines =
    same_numbers (read_with 2 8 ("job,2,2,4,2,1\n" ++ᵗ squares)) (1 ∷ flat_lent (with_gap 1 example))
    && same_numbers (read_with 2 8 ("job,2,2,4,2,0\n" ++ᵗ squares)) (1 ∷ flat_lent example)
    && same_numbers (read_with 64 65536 ("job,2,2,4,2,8\n" ++ᵗ squares)) (1 ∷ flat_lent (with_gap 8 example))
    && refuses "job,2,2,4,2,9\n" 2 1
    && refuses "job,2,2,4,2,99999\n" 2 1
    && refuses "job,2,512,4096,64,9\n" 2 1
    && refuses "job,2,512,4096,64,8\n" 3 1
    && refuses "job,2,0,4,2,8\n" 2 1
    && refuses "job,2,16,4096,64,8\n" 1 2

-- wrong form of a line with a gap: the number of fields of another version, versions 0, 4 and 02, a leading zero, six digits, no
-- number, no line end, a field too many, and form before range
unfoldable pub gap_line_form : Bool
gap_line_form =
    refuses ("job,2,2,4,2\n" ++ᵗ squares) 1 1 && refuses ("job,1,2,4,2,0\n" ++ᵗ squares) 1 1 && refuses "job,0,2,4,2,1\n" 1 1
    && refuses "job,4,2,4,2,1\n" 1 1
    && refuses "job,4,2,4,2\n" 1 1
    && refuses "job,02,2,4,2,1\n" 1 1
    && refuses "job,2,2,4,2,01\n" 1 1
    && refuses "job,2,2,4,2,000001\n" 1 1
    && refuses "job,2,2,4,2,\n" 1 1
    && refuses "job,2,2,4,2,1" 1 1
    && refuses "job,2,2,4,2,1,1\n" 1 1
    && refuses "job,2,0,4,65,x\n" 1 1
    && refuses "job,2,2,4,2,9" 1 1

-- the two squares in version 3, with a lock each
unfoldable pub locked_squares : String → String → String
locked_squares a b = "piece,0,2,2,1," ++ᵗ a ++ᵗ "\nrow,##\nrow,##\npiece,1,2,2,1," ++ᵗ b ++ᵗ "\nrow,##\nrow,##\n"

-- the example with piece 1 locked and a gap of 1
unfoldable pub locked_example : Lent
locked_example =
    record {
      size = record { rows = 2; columns = 4; count = 2; gap = 1 };
      table = (2 ∷ 2 ∷ 1 ∷ 0 ∷ []) ∷ (2 ∷ 2 ∷ 1 ∷ 1 ∷ []) ∷ [];
      pixels = replicate 8 1;
    }

-- version 3: the example with piece 1 locked and a gap of 1, and with no lock and no gap; a lock above 1, also where the box is larger than the
-- sheet; a gap above 8
unfoldable pub lock_lines : Bool
lock_lines =
    same_numbers (read_with 2 8 ("job,3,2,4,2,1\n" ++ᵗ locked_squares "0" "1")) (1 ∷ flat_lent locked_example)
    && same_numbers (read_with 2 8 ("job,3,2,4,2,0\n" ++ᵗ locked_squares "0" "0")) (1 ∷ flat_lent example)
    && refuses ("job,3,2,4,2,1\n" ++ᵗ locked_squares "2" "0") 2 2
    && refuses ("job,3,2,4,2,1\n" ++ᵗ locked_squares "1" "99999") 2 5
    && refuses "job,3,2,4,2,1\npiece,0,5,2,1,2\n" 2 2
    && refuses "job,3,2,4,2,1\npiece,0,5,2,1,1\n" 6 2
    && refuses "job,3,2,4,2,9\n" 2 1
    && refuses "job,3,17,4096,2,8\n" 3 1

-- wrong form in version 3: no gap, a number more, piece lines without a lock, a lock with a leading zero, of six digits, none and two, and form before
-- range; and piece lines with a lock in older versions
unfoldable pub lock_line_form : Bool
lock_line_form =
    refuses ("job,3,2,4,2\n" ++ᵗ locked_squares "0" "0") 1 1
    && refuses ("job,3,2,4,2,1\n" ++ᵗ squares) 1 2
    && refuses ("job,3,2,4,2,1,0\n" ++ᵗ locked_squares "0" "0") 1 1
    && refuses ("job,3,2,4,2,1\n" ++ᵗ locked_squares "0" "01") 1 5
    && refuses ("job,3,2,4,2,1\n" ++ᵗ locked_squares "0" "000001") 1 5
    && refuses ("job,3,2,4,2,1\n" ++ᵗ locked_squares "" "0") 1 2
    && refuses ("job,3,2,4,2,1\n" ++ᵗ locked_squares "0,0" "0") 1 2
    && refuses "job,3,2,4,2,1\npiece,0,0,2,1,2" 1 2
    && refuses ("job,1,2,4,2\n" ++ᵗ locked_squares "0" "0") 1 2
    && refuses ("job,2,2,4,2,1\n" ++ᵗ locked_squares "0" "0") 1 2

-- piece lines: form, number, sides, sum of turns, larger than the sheet, their order, and the longest sides, which pass
unfoldable pub piece_lines : Bool
piece_lines =
    refuses "job,1,2,4,2\n" 1 2 && refuses "job,1,2,4,2\npiece,0,2,2\n" 1 2 && refuses "job,1,2,4,2\npiece,1,2,2,1\n" 2 2
    && refuses "job,1,2,4,2\npiece,0,0,2,1\n" 2 2
    && refuses "job,1,2,4,2\npiece,0,256,2,1\n" 2 2
    && refuses "job,1,2,4,2\npiece,0,2,2,2\n" 2 2
    && refuses "job,1,2,4,2\npiece,0,2,2,17\n" 2 2
    && refuses "job,1,2,4,2\npiece,0,5,2,1\n" 6 2
    && refuses "job,1,2,4,2\npiece,0,2,3,1\n" 6 2
    && refuses "job,1,2,4,2\npiece,0,5,2,2\n" 2 2
    && refuses "job,1,2,4,2\npiece,0,5,2,2" 1 2
    && refuses "job,1,2,4,2\npiece,0,2,0,1\n" 2 2
    && refuses "job,1,512,128,2\npiece,0,2,256,1\n" 2 2
    && refuses "job,1,255,257,2\npiece,0,255,255,15\n" 1 3

-- a line of piece 1 after boxes of the given area, on line 9
unfoldable pub piece_one : Bool → String → ℕ → List ℕ
piece_one locks line area =
    flat flat_piece (piece_line (bytes line) (record { size = record { rows = 2; columns = 4; count = 2; gap = 0 }; locks = locks; next = 0 }) 1 area 0 9)

-- its line without a lock
unfoldable pub second_piece : ℕ → List ℕ
second_piece area = piece_one false "piece,1,2,2,1\n" area

-- pieces 1 and 2 after boxes of the given area, from line 9 on; the row lines of piece 2 are missing
unfoldable pub later_pieces : ℕ → List ℕ
later_pieces area =
    flat flat_pieces
    (pieces_at (bytes "piece,1,1,1,1\nrow,#\npiece,2,2,2,1\n") (record { size = record { rows = 2; columns = 4; count = 3; gap = 0 }; locks = false; next = 0 })
    2 1 area 0 9)

-- box areas so far: up to 65,536, and above, by this box or by those before it; a lock above 1 comes before them
unfoldable pub box_areas : Bool
box_areas =
    same_numbers (second_piece 65532) (1 ∷ 1 ∷ 2 ∷ 2 ∷ 1 ∷ 0 ∷ 14 ∷ []) && same_numbers (second_piece 65533) (0 ∷ 4 ∷ 9 ∷ 0 ∷ [])
    && same_numbers (piece_one true "piece,1,2,2,1,1\n" 65532) (1 ∷ 1 ∷ 2 ∷ 2 ∷ 1 ∷ 1 ∷ 16 ∷ [])
    && same_numbers (piece_one true "piece,1,2,2,1,1\n" 65533) (0 ∷ 4 ∷ 9 ∷ 0 ∷ [])
    && same_numbers (piece_one true "piece,1,2,2,1,2\n" 65533) (0 ∷ 2 ∷ 9 ∷ 0 ∷ [])
    && same_numbers (later_pieces 65531) (0 ∷ 1 ∷ 12 ∷ 0 ∷ [])
    && same_numbers (later_pieces 65532) (0 ∷ 4 ∷ 11 ∷ 0 ∷ [])

-- row lines: too few or too many marks, another mark, a missing row, a row without its line end, a loose box at its last row, and
-- anything after the last line
unfoldable pub row_lines : Bool
row_lines =
    refuses "job,1,2,4,2\npiece,0,2,2,1\nrow,#\n" 1 3 && refuses "job,1,2,4,2\npiece,0,2,2,1\nrow,###\n" 1 3
    && refuses "job,1,2,4,2\npiece,0,2,2,1\nrow,#o\n" 1 3
    && refuses "job,1,2,4,2\npiece,0,2,2,1\nrow,##\npiece,1,2,2,1\n" 1 4
    && refuses "job,1,2,4,1\npiece,0,2,2,1\nrow,##\nrow,##" 1 4
    && refuses "job,1,2,4,1\npiece,0,2,2,1\nrow,#.\nrow,#." 1 4
    && refuses "job,1,2,4,1\npiece,0,2,2,1\nrow,#.\nrow,#.\n" 5 4
    && refuses "job,1,2,4,1\npiece,0,2,2,1\nrow,##\nrow,..\nrow,##\n" 5 4
    && refuses ("job,1,2,4,1\n" ++ᵗ squares) 1 5
    && refuses ("job,1,2,4,2\n" ++ᵗ squares ++ᵗ "\n") 1 8
    && refuses ("job,1,2,4,2\n" ++ᵗ squares ++ᵗ "x") 1 8
    && refuses ("job,1,2,4,3\n" ++ᵗ squares) 1 8

-- ── the layout text ──

-- what reading a layout of the example comes to, with a buffer of the given length
unfoldable pub layout_with : ℕ → String → List ℕ
layout_with layout_length text = flat flat_layout (read_layout (job_of example) (bytes text) layout_length)

-- the text is refused with the number at the line, whatever the buffer
unfoldable pub layout_refuses : String → ℕ → ℕ → Bool
layout_refuses text number line =
    same_numbers (layout_with 2 text) (0 ∷ number ∷ line ∷ 0 ∷ []) && same_numbers (layout_with 3 text) (0 ∷ number ∷ line ∷ 0 ∷ [])

-- the text of the example's start layout
unfoldable pub start_text : String
start_text = "layout,1,2,4,2\nat,0,0,0,0\nat,1,0,2,0\n"

-- it is written byte for byte and read back; a buffer of another length is refused
unfoldable pub layout_written : Bool
layout_written =
    same_numbers (layout_text (job_of example) (start_of_all (job_of example))) (bytes start_text)
    && same_numbers (layout_with 2 start_text) (1 ∷ 0 ∷ 0 ∷ 0 ∷ 0 ∷ 2 ∷ 0 ∷ [])
    && same_numbers (layout_with 1 start_text) (0 ∷ 7 ∷ 0 ∷ 0 ∷ [])
    && same_numbers (layout_with 3 start_text) (0 ∷ 7 ∷ 0 ∷ 0 ∷ [])

-- a job with a gap has the same layout text, and its pieces may lie at the sheet's edge
unfoldable pub gap_layout : Bool
gap_layout =
    same_numbers (layout_text (job_of (with_gap 8 example)) (start_of_all (job_of (with_gap 8 example)))) (bytes start_text)
    && same_numbers (flat flat_layout (read_layout (job_of (with_gap 8 example)) (bytes start_text) 2)) (1 ∷ 0 ∷ 0 ∷ 0 ∷ 0 ∷ 2 ∷ 0 ∷ [])

-- damaged layout texts: form, numbers unlike the job's, degrees of no turn, a turn not allowed, a placement outside, a missing and
-- an extra line, and the order of causes
unfoldable pub layout_damaged : Bool
layout_damaged =
    layout_refuses "" 1 1 && layout_refuses "layout,2,2,4,2\n" 1 1 && layout_refuses "layout,1,2,5,2\n" 2 1
    && layout_refuses "layout,1,3,4,2\n" 2 1
    && layout_refuses "layout,1,4,2,2\n" 2 1
    && layout_refuses "layout,1,2,4,3\n" 2 1
    && layout_refuses "layout,1,2,4,2\nat,0,0,0\n" 1 2
    && layout_refuses "layout,1,2,4,2\nat,1,0,0,0\n" 2 2
    && layout_refuses "layout,1,2,4,2\nat,0,45,0,0\n" 2 2
    && layout_refuses "layout,1,2,4,2\nat,0,90,3,0\n" 9 2
    && layout_refuses "layout,1,2,4,2\nat,0,0,3,0\n" 10 2
    && layout_refuses "layout,1,2,4,2\nat,0,0,99999,0\n" 10 2
    && layout_refuses "layout,1,2,4,2\nat,0,0,100000,0\n" 1 2
    && layout_refuses "layout,1,2,4,2\nat,0,0,0,1\n" 10 2
    && layout_refuses "layout,1,2,4,2\nat,0,0,0,0\n" 1 3
    && layout_refuses "layout,1,2,4,2\nat,0,0,0,0\nat,1,0,2,0" 1 3
    && layout_refuses (start_text ++ᵗ "at,2,0,0,0\n") 1 4

-- four pieces of 2 columns and 1 row, every turn allowed, on a sheet of 12 rows and 345 columns
unfoldable pub bars : Lent
bars =
    record {
      size = record { rows = 12; columns = 345; count = 4; gap = 0 };
      table = replicate 4 (2 ∷ 1 ∷ 15 ∷ 0 ∷ []);
      pixels = 1 ∷ 1 ∷ 1 ∷ 1 ∷ 1 ∷ 1 ∷ 1 ∷ 1 ∷ [];
    }

-- their layout in the four turns, as far right and up as the turned boxes allow
unfoldable pub turned_text : String
turned_text = "layout,1,12,345,4\nat,0,0,343,11\nat,1,90,344,10\nat,2,180,343,11\nat,3,270,344,10\n"

-- it is read, and written byte for byte; one column or row further is outside
unfoldable pub turns_read : Bool
turns_read =
    same_numbers (flat flat_layout (read_layout (job_of bars) (bytes turned_text) 4))
    (1 ∷ 0 ∷ 343 ∷ 11 ∷ 90 ∷ 344 ∷ 10 ∷ 180 ∷ 343 ∷ 11 ∷ 270 ∷ 344 ∷ 10 ∷ [])
    && same_numbers (flat (layout_text (job_of bars)) (read_layout (job_of bars) (bytes turned_text) 4)) (1 ∷ bytes turned_text)
    && same_numbers (flat flat_layout (read_layout (job_of bars) (bytes "layout,1,12,345,4\nat,0,90,344,11\n") 4)) (0 ∷ 10 ∷ 2 ∷ 0 ∷ [])
    && same_numbers (flat flat_layout (read_layout (job_of bars) (bytes "layout,1,12,345,4\nat,0,180,344,11\n") 4)) (0 ∷ 10 ∷ 2 ∷ 0 ∷ [])

-- all of them
unfoldable pub text_examples : Bool
text_examples =
    reads && job_line_form && job_line_range && gap_lines && gap_line_form && lock_lines && lock_line_form && piece_lines && box_areas && row_lines && layout_written
    && gap_layout
    && layout_damaged
    && turns_read
