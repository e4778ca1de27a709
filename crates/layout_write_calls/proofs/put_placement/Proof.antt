-- `layout_write_calls::put_placement` meets its contract: a word, a field and three fields (`placement_text_lem`). Assumes nothing.
use Rattle.list_laws.proofs.Kit.{◌∙◌, ap, rules}
use Rattle.model.specs.Layout.{place_of}
use Rattle.model.specs.Buffer.{entry_of, layout_of}
use Rattle.model.specs.LayoutText.{at_word}
use Rattle.layout_write_calls.proofs.Sequel.{bytes_written, written_then, placement_text_lem}
use Rattle.layout_write_calls.proofs.put_placement.Statement.{statement}
use Rattle.layout_write_calls.proofs.put_placement.Tie as tie

returns : tie.Need-returns
returns c =
    let at-put-field : tie.After-put_field-next = search in
    let at-put-word : tie.After-put_word-after_word = search in
    let at-entry-of : tie.After-entry_of-entry = search in
    let at-place-at : tie.After-place_at = search in
    let at-start : tie.Start = search in
    let a = at-start.args in
    rw (placement_text_lem a.i (place_of (layout_of a.layout.now) a.i) _ (at-entry-of.entry_of-entry.ensures ∙ ap entry_of at-place-at.place_at.ensures)) at
    (written_then (written_then (bytes_written a.text.now a.at _ _ at_word at-put-word.put_word-after_word.ensures) at-put-field.put_field-next.ensures)
    c.before.before.put_three.ensures)

pub put_placement_spec : {M : Type 1} → statement M
put_placement_spec =
    tie.close (tie.spec
    (search rules) (search rules) (search rules) (search rules) (search rules) (search rules) (search rules) (search rules) (search rules)
    (search rules) (search rules) (search rules) (search rules) returns)
