-- How long a layout's text is: a line of four fields has at most 27 bytes, and so has the layout line. Assumes nothing.
use Rattle.list_laws.proofs.Kit.{List, [], ◌∷◌, ◌*◌, ◌+◌, ◌≤◌, suc, ℕ, arith, length, length-append}
use Rattle.model.specs.Layout.{Job, Layout}
use Rattle.model.specs.Buffer.{entry_of}
use Rattle.model.specs.Text.{three_fields, four_fields, fields_text, line_text}
use Rattle.model.specs.LayoutText.{layout_word, at_word, placements_text, sheet_numbers, layout_text}
use Rattle.text_fields.proofs.Steps.{decimal_short}

-- a field has at most 5 digits and its end byte
fields_short : (ends ks : List ℕ) → length (fields_text ends ks) ≤ 6 * length ends
unfolding fields_text
fields_short [] ks = omega arith
fields_short (end ∷ ends) [] = omega arith
fields_short (end ∷ ends) (k ∷ ks) = let d = decimal_short 5 k in let h = fields_short ends ks in rw length-append (omega arith)

-- a line has a word besides
line_short : (word ends ks : List ℕ) → length (line_text word ends ks) ≤ length word + 6 * length ends
line_short word ends ks = let h = fields_short ends ks in rw length-append (omega arith)

-- the lines of the pieces
placements_short : (i : ℕ) (v : Layout) → length (placements_text i v) ≤ 27 * length v
unfolding placements_text
placements_short i [] = omega arith
placements_short i (p ∷ v) =
    let h = placements_short (suc i) v in
    let l : length (line_text at_word four_fields (i ∷ entry_of p)) ≤ 27 = line_short at_word four_fields (i ∷ entry_of p) in
    rw length-append (omega arith)

-- the text of a layout
pub layout_short : (j : Job) (v : Layout) → length (layout_text j v) ≤ 27 + 27 * length v
unfolding layout_text
layout_short j v =
    let h = placements_short 0 v in
    let l : length (line_text layout_word three_fields (sheet_numbers j)) ≤ 27 = line_short layout_word three_fields (sheet_numbers j) in
    rw length-append (omega arith)
