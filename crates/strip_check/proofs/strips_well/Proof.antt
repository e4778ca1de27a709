-- `strip_check::strips_well` meets its contract: valid strips are a piece's exactly where they reach the outer lines. Assumes nothing.
use Rattle.list_laws.proofs.Kit.{◌∙◌, ◌≡◌, sym, Bool, ◌&&◌, true, ◌-◌, arith, eqb, length, rules}
use Rattle.model.specs.Bounded.{any_below}
use Rattle.model.specs.Piece.{other}
use Rattle.model.specs.Calls.{strips_well}
use Rattle.list_laws.proofs.Tests.{first_fails, second_fails}
use Rattle.strip_check.specs.Check.{strip_in}
use Rattle.strip_check.proofs.Edges.{touches, side_some, not_well_here, well_here}
use Rattle.strip_check.proofs.strips_well.Statement.{statement}
use Rattle.strip_check.proofs.strips_well.Tie as tie

returns-then-not-valid : tie.Need-returns-then-not-valid
returns-then-not-valid c =
    let at-line-length : tie.After-line_length-length = search in
    let at-start : tie.Start = search in
    let a = at-start.args in
    not_well_here a.direction a.columns a.rows a.strips.now at-line-length.line_length-length.result c.line_count-lines.result
    at-line-length.line_length-length.ensures c.line_count-lines.ensures
    (sym c.if-not-valid.true ∙ c.valid.ensures.0)

-- the strips are valid: they are a piece's exactly where they reach the outer lines
passed : (c : tie.Else-not-valid)
    →
    let at-line-length : tie.After-line_length-length = search in
    let at-start : tie.Start = search in
    strips_well at-start.args.direction at-start.args.columns
    at-start.args.rows at-start.args.strips.now
    ≡ touches at-start.args.strips.now at-line-length.line_length-length.result c.line_count-lines.result
passed c =
    let at-line-length : tie.After-line_length-length = search in
    let at-start : tie.Start = search in
    let a = at-start.args in
    let v = c.if-not-valid.false in
    well_here a.direction a.columns a.rows a.strips.now at-line-length.line_length-length.result c.line_count-lines.result
    at-line-length.line_length-length.ensures c.line_count-lines.ensures (sym v ∙ c.valid.ensures.0) (c.valid.ensures.1 v)

-- three tests that pass leave the fourth
three_pass : (a b d e : Bool) → a ≡ true → b ≡ true → d ≡ true → ((a && b) && (d && e)) ≡ e
three_pass a b d e p q r = rw (p, q, r)

returns-then-not-on_line : tie.Need-returns-then-not-on_line
returns-then-not-on_line c =
    sym (passed c.before.before
    ∙ first_fails _ (first_fails _ (sym c.on_line.ensures ∙ c.if-not-on_line.true)))

overflow_sub-lines : tie.Need-overflow_sub-lines
overflow_sub-lines c =
    let at-line-count : tie.After-line_count-lines = search in
    let at-start : tie.Start = search in
    let a = at-start.args in
    let p = at-start.requires in
    let e = at-line-count.line_count-lines.ensures in
    let h = side_some (other a.direction) a.columns a.rows p.0 p.1 in
    omega arith

returns-then-not-on_line-2 : tie.Need-returns-then-not-on_line-2
returns-then-not-on_line-2 c =
    let at-else1 : tie.Else-not-valid = search in
    let at-start : tie.Start = search in
    let a = at-start.args in
    sym (passed (at-else1)
    ∙ first_fails _ (second_fails (any_below (length a.strips.now) (λ i. eqb (strip_in a.strips.now i).line 0))
    (sym c.on_line-2.ensures ∙ c.if-not-on_line-2.true)))

returns-then-not-at_place : tie.Need-returns-then-not-at_place
returns-then-not-at_place c =
    let at-else1 : tie.Else-not-valid = search in
    let at-line-count : tie.After-line_count-lines = search in
    let at-start : tie.Start = search in
    let a = at-start.args in
    let m = at-line-count.line_count-lines.result in
    sym (passed (at-else1)
    ∙ second_fails
    (any_below (length a.strips.now) (λ i. eqb (strip_in a.strips.now i).line 0)
    && any_below (length a.strips.now) (λ i. eqb (strip_in a.strips.now i).line (m - 1)))
    (first_fails _ (sym c.at_place.ensures ∙ c.if-not-at_place.true)))

-- a box has places along its strips, and lines too: both are said, so that what takes the one for the other is refused for its answer
overflow_sub-last : tie.Need-overflow_sub-last
overflow_sub-last c =
    let at-line-length : tie.After-line_length-length = search in
    let at-line-count : tie.After-line_count-lines = search in
    let at-start : tie.Start = search in
    let a = at-start.args in
    let p = at-start.requires in
    let places = at-line-length.line_length-length.ensures in
    let some-place = side_some a.direction a.columns a.rows p.0 p.1 in
    let lines = at-line-count.line_count-lines.ensures in
    let some-line = side_some (other a.direction) a.columns a.rows p.0 p.1 in
    omega arith

returns : tie.Need-returns
returns c =
    let at-else3 : tie.Else-not-on_line-2 = search in
    let at-on-line2 : tie.After-on_line-2 = search in
    let at-else2 : tie.Else-not-on_line = search in
    let at-on-line : tie.After-on_line = search in
    let at-else1 : tie.Else-not-valid = search in
    sym (passed (at-else1)
    ∙ three_pass _ _ _ _ (sym at-on-line.on_line.ensures ∙ at-else2.if-not-on_line.false)
    (sym at-on-line2.on_line-2.ensures ∙ at-else3.if-not-on_line-2.false)
    (sym c.at_place.ensures ∙ c.if-not-at_place.false)
    ∙ sym c.at_place-2.ensures)

pub strips_well_spec : {M : Type 1} → statement M
strips_well_spec =
    tie.close (tie.spec
    (search rules) (search rules) (search rules) returns-then-not-valid (search rules) returns-then-not-on_line overflow_sub-lines (search rules)
    returns-then-not-on_line-2 (search rules) returns-then-not-at_place overflow_sub-last (search rules) returns)
