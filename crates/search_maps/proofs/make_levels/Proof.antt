-- `search_maps::make_levels` meets its contract: the marks, also when they grow, end before the last word of a level, however much they are widened.
-- Assumes nothing.
use Rattle.list_laws.proofs.Kit.{◌∙◌, rules}
use Rattle.search_maps.proofs.Fitting.{marks_fit, level_room}
use Rattle.search_maps.proofs.Marking.{grown_length, levels_from}
use Rattle.search_maps.proofs.make_levels.Statement.{statement}
use Rattle.search_maps.proofs.make_levels.Tie as tie

make_marks-requires : tie.Need-make_marks-requires
make_marks-requires c κs =
    let at-start : tie.Start = search in
    let at-row-width : tie.After-row_width-w = search in
    let at-mark-words : tie.After-mark_words-size = search in
    let a = at-start.args in
    let f =
    marks_fit a.sides at-start.requires.0 _ _ _ at-row-width.row_width-w.ensures at-mark-words.mark_words-size.ensures
    at-start.requires.1.1.0 a.extra a.moved.now at-start.requires.1.0 in
    (f.0, (f.1, f.2))

grow_marks-requires : tie.Need-grow_marks-requires
grow_marks-requires c κs =
    let at-make-marks : tie.After-make_marks = search in
    let at-start : tie.Start = search in
    let at-row-width : tie.After-row_width-w = search in
    let at-mark-words : tie.After-mark_words-size = search in
    let a = at-start.args in
    let f =
    marks_fit a.sides at-start.requires.0 _ _ _ at-row-width.row_width-w.ensures at-mark-words.mark_words-size.ensures
    at-start.requires.1.1.0 a.extra a.moved.now at-start.requires.1.0 in
    (rw at-make-marks.make_marks.ensures.same f.0, f.2, at-start.requires.1.0.few)

widen_levels-requires : tie.Need-widen_levels-requires
widen_levels-requires c κs =
    let at-grow-marks : tie.After-grow_marks = search in
    let at-make-marks : tie.After-make_marks = search in
    let at-mark-words : tie.After-mark_words-size = search in
    let at-start : tie.Start = search in
    let a = at-start.args in
    level_room a.sides at-start.requires.0 _ _ a.levels at-mark-words.mark_words-size.ensures at-start.requires.1.1.1 a.scratch.now _
    (grown_length _ _ _ _ _ at-grow-marks.grow_marks.ensures ∙ at-make-marks.make_marks.ensures.same) at-start.requires.1.1.0

returns : tie.Need-returns
returns c =
    let at-grow-marks : tie.After-grow_marks = search in
    let at-make-marks : tie.After-make_marks = search in
    let at-mark-words : tie.After-mark_words-size = search in
    let at-row-width : tie.After-row_width-w = search in
    let at-start : tie.Start = search in
    let a = at-start.args in
    let size = at-mark-words.mark_words-size.ensures in
    let marks = at-make-marks.make_marks.ensures in
    let grown = at-grow-marks.grow_marks.ensures in
    let room =
    level_room a.sides at-start.requires.0 _ _ a.levels size at-start.requires.1.1.1 a.scratch.now _
    (grown_length _ _ _ _ _ grown ∙ marks.same) at-start.requires.1.1.0 in
    levels_from a.moved.now a.sides a.extra a.levels _ _ a.scratch.now _ _ _ at-start.requires.0 at-start.requires.1.0
    at-start.requires.1.1.1 at-row-width.row_width-w.ensures size room marks grown c.before.before.widen_levels.ensures

pub make_levels_spec : {M : Type 1} → statement M
make_levels_spec =
    tie.close (tie.spec
    (search rules) (search rules) make_marks-requires grow_marks-requires widen_levels-requires (search rules) returns)
