-- `strip_rebuild_calls::rebuild` meets its contract: each refusal is the call's first cause, and nothing is written before the last of them.
-- Assumes nothing.
use Rattle.list_laws.proofs.Kit.{◌∙◌, ◌≡◌, ap, sym, true, ◌*◌, ◌≤◌, mul-le-mul, arith, length, rules}
use Rattle.model.specs.Lent.{up_to}
use Rattle.model.specs.Piece.{side_bound}
use Rattle.model.specs.Calls.{strips_well, pixels_after}
use Rattle.model.specs.Answers.{done_answer}
use Rattle.strip_rebuild_calls.proofs.Again.{after_again}
use Rattle.strip_rebuild_calls.proofs.Outcomes.{side_range, refused_columns, refused_rows, refused_strips, refused_room, given_set}
use Rattle.strip_rebuild_calls.proofs.rebuild.Statement.{statement}
use Rattle.strip_rebuild_calls.proofs.rebuild.Tie as tie

returns-then-not-side_in_range : tie.Need-returns-then-not-side_in_range
returns-then-not-side_in_range c =
    let at-start : tie.Start = search in
    let a = at-start.args in
    let out = refused_columns a.direction a.columns a.rows a.strips.now (length a.pixels.now)
    (sym c.side_in_range.ensures ∙ c.if-not-side_in_range.true) in
    let left = ap (pixels_after a.pixels.now) (sym out) in
    (c.refused.ensures ∙ ap done_answer (sym out), (left, after_again _ _ _ _ _ _ left))

returns-then-not-side_in_range-2 : tie.Need-returns-then-not-side_in_range-2
returns-then-not-side_in_range-2 c =
    let at-start : tie.Start = search in
    let a = at-start.args in
    let out = refused_rows a.direction a.columns a.rows a.strips.now (length a.pixels.now)
    (sym c.side_in_range-2.ensures ∙ c.if-not-side_in_range-2.true) in
    let left = ap (pixels_after a.pixels.now) (sym out) in
    (c.refused-then-not-side_in_range-2.ensures ∙ ap done_answer (sym out), (left, after_again _ _ _ _ _ _ left))

-- both sides are in range
sides : (c : tie.Else-not-side_in_range-2)
    →
    let at-start : tie.Start = search in
    (up_to side_bound at-start.args.columns ≡ true)
    × (up_to side_bound at-start.args.rows ≡ true)
sides c =
    let at-side-in-range : tie.After-side_in_range = search in (
      sym at-side-in-range.side_in_range.ensures ∙ c.if-not-side_in_range.false,
      sym c.side_in_range-2.ensures ∙ c.if-not-side_in_range-2.false,
    )

strips_well-requires : tie.Need-strips_well-requires
strips_well-requires c κs = let s = sides c in ((side_range _ s.0).0, (side_range _ s.1).0)

returns-then-not-strips_well : tie.Need-returns-then-not-strips_well
returns-then-not-strips_well c =
    let at-else2 : tie.Else-not-side_in_range-2 = search in
    let at-start : tie.Start = search in
    let a = at-start.args in
    let out = refused_strips a.direction a.columns a.rows a.strips.now (length a.pixels.now) (sides (at-else2)).0 (sides (at-else2)).1
    (sym c.strips_well.ensures ∙ c.if-not-strips_well.true) in
    let left = ap (pixels_after a.pixels.now) (sym out) in
    (c.refused-then-not-strips_well.ensures ∙ ap done_answer (sym out), (left, after_again _ _ _ _ _ _ left))

-- some piece of the box has just these strips
well : (c : tie.Else-not-strips_well)
    →
    let at-start : tie.Start = search in
    strips_well at-start.args.direction at-start.args.columns
    at-start.args.rows at-start.args.strips.now ≡ true
well c = sym c.strips_well.ensures ∙ c.if-not-strips_well.false

overflow_mul-columns : tie.Need-overflow_mul-columns
overflow_mul-columns c =
    let at-start : tie.Start = search in
    let a = at-start.args in
    let l : a.columns ≤ 255 = (side_range _ (sides c.before.before).0).1 in
    let r : a.rows ≤ 255 = (side_range _ (sides c.before.before).1).1 in
    let h : a.columns * a.rows ≤ 255 * 255 = mul-le-mul l r in
    omega arith

returns-then-pixels-columns : tie.Need-returns-then-pixels-columns
returns-then-pixels-columns c =
    let at-else2 : tie.Else-not-side_in_range-2 = search in
    let at-start : tie.Start = search in
    let a = at-start.args in
    let out = refused_room a.direction a.columns a.rows a.strips.now (length a.pixels.now) (sides (at-else2)).0 (sides (at-else2)).1
    (well c.before.before) c.if-pixels-columns.true in
    let left = ap (pixels_after a.pixels.now) (sym out) in
    (c.refused-then-pixels-columns.ensures ∙ ap done_answer (sym out), (left, after_again _ _ _ _ _ _ left))

write-requires : tie.Need-write-requires
write-requires c κs =
    let at-else2 : tie.Else-not-side_in_range-2 = search in
    let s = sides (at-else2) in (
      record {
        wide = (side_range _ s.0).0;
        high = (side_range _ s.1).0;
        columns_small = (side_range _ s.0).1;
        rows_small = (side_range _ s.1).1;
        long = c.if-pixels-columns.false;
      },
      well c.before.before,
    )

returns : tie.Need-returns
returns c =
    let at-else4 : tie.Else-pixels-columns = search in
    let at-else3 : tie.Else-not-strips_well = search in
    let at-else2 : tie.Else-not-side_in_range-2 = search in
    let at-start : tie.Start = search in
    let a = at-start.args in
    let s = sides (at-else2) in
    let out =
    given_set a.direction a.columns a.rows a.strips.now (length a.pixels.now) s.0 s.1 (well (at-else3)) at-else4.if-pixels-columns.false in
    let left = c.write.ensures ∙ ap (pixels_after a.pixels.now) (sym out) in
    (ap done_answer (sym out), (left, after_again _ _ _ _ _ _ left))

pub rebuild_spec : {M : Type 1} → statement M
rebuild_spec =
    tie.close (tie.spec
    (search rules) (search rules) returns-then-not-side_in_range (search rules) (search rules) returns-then-not-side_in_range-2 strips_well-requires
    (search rules) returns-then-not-strips_well overflow_mul-columns (search rules) returns-then-pixels-columns write-requires (search rules) returns)
