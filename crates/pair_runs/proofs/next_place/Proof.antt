-- `pair_runs::next_place`: the places before p are passed; the rest of p's word has the next one, or is passed too. Assumes nothing.
use Rattle.list_laws.proofs.Kit.{refl, ◌%◌, ◌-◌, ◌/◌, ◌^◌, arith, rules}
use lib.Count.{trailing_le}
use Rattle.pair_runs.proofs.Places.{NoneUpTo, word_passed, place_found, none_found}
use Rattle.pair_runs.proofs.next_place.Statement.{statement}
use Rattle.pair_runs.proofs.next_place.Tie as tie

abbrev invariant-loop-p : tie.invariant-loop-p
invariant-loop-p marks k bit p₀ p = NoneUpTo marks bit k p

abbrev decreases-loop-p : tie.decreases-loop-p
decreases-loop-p marks k bit p₀ p = 576 - p

loop-p-init : tie.Need-loop-p-init invariant-loop-p decreases-loop-p
loop-p-init c = record { low = omega arith; before = λ m a b. absurd (omega arith) }

overflow_cast-left : tie.Need-overflow_cast-left invariant-loop-p decreases-loop-p
overflow_cast-left c =
    let at-loop : tie.At-loop-p invariant-loop-p decreases-loop-p = search in
    omega (arith, trailing_le 64 (c.before.sought.result / 2 ^ (at-loop.loop-p.p % 64)))

overflow_add-p : tie.Need-overflow_add-p invariant-loop-p decreases-loop-p
overflow_add-p c =
    let at-loop : tie.At-loop-p invariant-loop-p decreases-loop-p = search in
    let in-loop : tie.In-loop-p invariant-loop-p decreases-loop-p = search in
    omega (arith, in-loop.loop-p-test.true, trailing_le 64 (c.before.sought.result / 2 ^ (at-loop.loop-p.p % 64)))

returns-then-left-ne0 : tie.Need-returns-then-left-ne0 invariant-loop-p decreases-loop-p
returns-then-left-ne0 c =
    let at-start : tie.Start invariant-loop-p decreases-loop-p = search in
    let in-loop : tie.In-loop-p invariant-loop-p decreases-loop-p = search in
    let at-loop : tie.At-loop-p invariant-loop-p decreases-loop-p = search in
    let at-sought : tie.After-sought invariant-loop-p decreases-loop-p = search in
    let a = at-start.args in
    let w = at-loop.loop-p in
    place_found a.marks.now a.bit w.p at-sought.sought.result _ at-sought.sought.ensures refl a.k w.invariant
    c.before.if-left-ne0.true in-loop.loop-p-test.true _ c.min.ensures

loop-p-preserved : tie.Need-loop-p-preserved invariant-loop-p decreases-loop-p
loop-p-preserved c =
    let at-start : tie.Start invariant-loop-p decreases-loop-p = search in
    let at-loop : tie.At-loop-p invariant-loop-p decreases-loop-p = search in
    let at-sought : tie.After-sought invariant-loop-p decreases-loop-p = search in
    let a = at-start.args in
    let w = at-loop.loop-p in
    word_passed a.marks.now a.bit w.p at-sought.sought.result _ at-sought.sought.ensures refl a.k w.invariant c.if-left-ne0.false

returns : tie.Need-returns invariant-loop-p decreases-loop-p
returns c =
    let at-start : tie.Start invariant-loop-p decreases-loop-p = search in
    let w = c.before.loop-p in
    none_found at-start.args.marks.now at-start.args.bit at-start.args.k w.p at-start.requires.0 c.loop-p-test.false w.invariant

pub next_place_spec : {M : Type 1} → statement M
next_place_spec =
    tie.close (tie.spec
    invariant-loop-p decreases-loop-p loop-p-init (search rules) (search rules) (search rules) (search rules) overflow_cast-left overflow_add-p
    (search rules) returns-then-left-ne0 (search rules) (search rules) (search rules) loop-p-preserved returns)
