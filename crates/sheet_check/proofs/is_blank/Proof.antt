-- `is_blank`: the first part that differs from the blank entry fails the test.
-- Assumes nothing.
use Rattle.list_laws.proofs.Kit.{◌∙◌, ◌≡◌, false, true, eqb, rules, eq-eqb, ne_eqb}
use Rattle.model.specs.Piece.{degrees}
use Rattle.model.specs.Cover.{is_blank}
use Rattle.sheet_check.proofs.is_blank.Tie as tie
use Rattle.sheet_check.proofs.is_blank.Statement.{statement}

returns-then-entry : tie.Need-returns-then-entry
unfolding is_blank
returns-then-entry c = rw c.if-entry.true

returns-then-degrees_of-ne0 : tie.Need-returns-then-degrees_of-ne0
unfolding is_blank
returns-then-degrees_of-ne0 c =
    let at-else1 : tie.Else-entry = search in
    let at-start : tie.Start = search in
    let e = at-start.args.entry in
    let turned : eqb (degrees e.place.turn) 0 ≡ false = ne_eqb (degrees e.place.turn) 0 (λ q. c.if-degrees_of-ne0.true (c.degrees_of.ensures ∙ q)) in
    rw (at-else1.if-entry.false, turned)

returns-then-place-ne0 : tie.Need-returns-then-place-ne0
unfolding is_blank
returns-then-place-ne0 c =
    let at-degrees-of : tie.After-degrees_of = search in
    let at-else1 : tie.Else-entry = search in
    let at-start : tie.Start = search in
    let e = at-start.args.entry in
    let turn : eqb (degrees e.place.turn) 0 ≡ true = rw (← at-degrees-of.degrees_of.ensures) (eq-eqb _ 0 c.if-degrees_of-ne0.false) in
    let moved : eqb e.place.x.0 0 ≡ false = ne_eqb e.place.x.0 0 c.if-place-ne0.true in
    rw (at-else1.if-entry.false, turn, moved)

returns : tie.Need-returns
unfolding is_blank
returns c =
    let at-else2 : tie.Else-degrees_of-ne0 = search in
    let at-degrees-of : tie.After-degrees_of = search in
    let at-else1 : tie.Else-entry = search in
    let at-start : tie.Start = search in
    let e = at-start.args.entry in
    let turn : eqb (degrees e.place.turn) 0 ≡ true = rw (← at-degrees-of.degrees_of.ensures) (eq-eqb _ 0 at-else2.if-degrees_of-ne0.false) in
    let column : eqb e.place.x.0 0 ≡ true = eq-eqb e.place.x.0 0 c.if-place-ne0.false in
    rw (at-else1.if-entry.false, turn, column)

pub is_blank_spec : {M : Type 1} → statement M
is_blank_spec = tie.close (tie.spec
    returns-then-entry (search rules) returns-then-degrees_of-ne0 returns-then-place-ne0 returns)
