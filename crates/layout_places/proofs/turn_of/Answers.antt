-- Each arm's number is one of the four, and the last arm's is none of them.
use Rattle.list_laws.proofs.Kit.{◌≡◌, ne_eqb, arith}
use Rattle.model.specs.Buffer.{turn_of_degrees}
use Rattle.layout_places.proofs.turn_of.Goals as goal

pub returns-in-0 : goal.returns-in-0
unfolding turn_of_degrees
returns-in-0 c = rw c.in-0.is

pub returns-in-90 : goal.returns-in-90
unfolding turn_of_degrees
returns-in-90 c = rw c.in-90.is

pub returns-in-180 : goal.returns-in-180
unfolding turn_of_degrees
returns-in-180 c = rw c.in-180.is

pub returns-in-270 : goal.returns-in-270
unfolding turn_of_degrees
returns-in-270 c = rw c.in-270.is

pub returns-in_default : goal.returns-in_default
unfolding turn_of_degrees
returns-in_default c =
    let a : c.args.degrees ≡ 0 → ⊥ = λ e. omega arith in
    let b : c.args.degrees ≡ 90 → ⊥ = λ e. omega arith in
    let d : c.args.degrees ≡ 180 → ⊥ = λ e. omega arith in
    let t : c.args.degrees ≡ 270 → ⊥ = λ e. omega arith in
    rw (ne_eqb _ _ a, ne_eqb _ _ b, ne_eqb _ _ d, ne_eqb _ _ t, turn_of_degrees)
