-- `entry_well`: the entry passes as blank, or the parts of the other test fail one after another.
-- Assumes nothing.
use Rattle.list_laws.proofs.Kit.{◌∙◌, ◌≡◌, sym, true, [], arith, ltb, rules, ltb-true, not-false, not-true}
use Rattle.model.specs.Lent.{job_of}
use Rattle.list_laws.proofs.Tests.{and_left}
use Rattle.sheet_check.proofs.Entries.{blank_passes, free_fails, unknown_fails, inside_passes}
use Rattle.sheet_check.proofs.entry_well.Tie as tie
use Rattle.sheet_check.proofs.entry_well.Statement.{statement}

returns-then-is_blank : tie.Need-returns-then-is_blank
returns-then-is_blank c = λ pixels. blank_passes _ _ _ _ c.entry_of-entry.ensures (sym c.is_blank.ensures ∙ c.if-is_blank.true)

returns-then-not-entry : tie.Need-returns-then-not-entry
returns-then-not-entry c = λ pixels.
    let at-is-blank : tie.After-is_blank = search in
    let at-entry-of : tie.After-entry_of-entry = search in
    free_fails _ _ _ _ at-entry-of.entry_of-entry.ensures
    (sym at-is-blank.is_blank.ensures ∙ c.if-is_blank.false) (not-true _ c.if-not-entry.true)

returns-then-not-known : tie.Need-returns-then-not-known
unfolding job_of
returns-then-not-known c = λ pixels.
    let at-else2 : tie.Else-not-entry = search in
    let at-else1 : tie.Else-is_blank = search in
    let at-is-blank : tie.After-is_blank = search in
    let at-entry-of : tie.After-entry_of-entry = search in
    unknown_fails _ _ _ _ at-entry-of.entry_of-entry.ensures
    (sym at-is-blank.is_blank.ensures ∙ at-else1.if-is_blank.false)
    (not-false _ at-else2.if-not-entry.false) (sym (c.known.ensures pixels) ∙ c.if-not-known.true)

inside-requires : tie.Need-inside-requires
inside-requires c κs =
    let at-start : tie.Start = search in
    let a = at-start.args in
    let here : ltb a.i a.size.count ≡ true =
    and_left (ltb a.i a.size.count) _ (sym (c.known.ensures []) ∙ c.if-not-known.false) in
    let l = ltb-true a.i a.size.count here in
    let few = at-start.requires.0 in
    omega arith

returns : tie.Need-returns
unfolding job_of
returns c = λ pixels.
    let at-else2 : tie.Else-not-entry = search in
    let at-else1 : tie.Else-is_blank = search in
    let at-is-blank : tie.After-is_blank = search in
    let at-entry-of : tie.After-entry_of-entry = search in
    c.inside.ensures pixels
    ∙ inside_passes _ _ _ _ at-entry-of.entry_of-entry.ensures
    (sym at-is-blank.is_blank.ensures ∙ at-else1.if-is_blank.false)
    (not-false _ at-else2.if-not-entry.false)
    (sym (c.known.ensures pixels) ∙ c.if-not-known.false)

pub entry_well_spec : {M : Type 1} → statement M
entry_well_spec = tie.close (tie.spec
    (search rules) (search rules) returns-then-is_blank returns-then-not-entry (search rules) returns-then-not-known inside-requires returns)
