-- `pair_overlap::skip`: a strip that begins 1,288 before a place ends before it also when it is made longer and shifted, and so does every earlier one.
-- Assumes nothing.
use Rattle.list_laws.proofs.Kit.{◌+◌, ◌-◌, ◌/◌, pos_of_ne-zero, arith, length, rules}
use Rattle.pair_overlap.specs.Meet.{Skipped}
use Rattle.pair_overlap.proofs.Walk.{skip_to}
use Rattle.pair_overlap.proofs.skip.Statement.{statement}
use Rattle.pair_overlap.proofs.skip.Tie as tie

abbrev invariant-loop-i : tie.invariant-loop-i
invariant-loop-i s from place i₀ i = Skipped s from place i

abbrev decreases-loop-i : tie.decreases-loop-i
decreases-loop-i s from place i₀ i = length s - i

loop-i-init : tie.Need-loop-i-init invariant-loop-i decreases-loop-i
loop-i-init c = record { within = omega arith; before = λ k l. absurd (omega arith) }

returns-then-place-p : tie.Need-returns-then-place-p invariant-loop-i decreases-loop-i
returns-then-place-p c =
    let at-loop : tie.At-loop-i invariant-loop-i decreases-loop-i = search in
    at-loop.loop-i.invariant

returns-then-lines-eq0 : tie.Need-returns-then-lines-eq0 invariant-loop-i decreases-loop-i
returns-then-lines-eq0 c =
    let at-loop : tie.At-loop-i invariant-loop-i decreases-loop-i = search in
    at-loop.loop-i.invariant

returns-then-s-i : tie.Need-returns-then-s-i invariant-loop-i decreases-loop-i
returns-then-s-i c =
    let at-loop : tie.At-loop-i invariant-loop-i decreases-loop-i = search in
    at-loop.loop-i.invariant

overflow_sub-i : tie.Need-overflow_sub-i invariant-loop-i decreases-loop-i
overflow_sub-i c = let z = pos_of_ne-zero c.before.if-lines-eq0.false in omega arith

span_at-q-requires : tie.Need-span_at-q-requires invariant-loop-i decreases-loop-i
span_at-q-requires c κs = let z = pos_of_ne-zero c.before.if-lines-eq0.false in omega arith

overflow_add-q : tie.Need-overflow_add-q invariant-loop-i decreases-loop-i
overflow_add-q c = omega (arith, c.before.span_at-q.ensures)

returns-then-place-q : tie.Need-returns-then-place-q invariant-loop-i decreases-loop-i
returns-then-place-q c =
    let at-loop : tie.At-loop-i invariant-loop-i decreases-loop-i = search in
    at-loop.loop-i.invariant

loop-i-smaller : tie.Need-loop-i-smaller invariant-loop-i decreases-loop-i
loop-i-smaller c =
    let at-else2 : tie.Else-lines-eq0 invariant-loop-i decreases-loop-i = search in
    let z = pos_of_ne-zero at-else2.if-lines-eq0.false in omega arith

loop-i-preserved : tie.Need-loop-i-preserved invariant-loop-i decreases-loop-i
loop-i-preserved c =
    let at-else2 : tie.Else-lines-eq0 invariant-loop-i decreases-loop-i = search in
    let at-span-at : tie.After-span_at-p invariant-loop-i decreases-loop-i = search in
    let at-loop : tie.At-loop-i invariant-loop-i decreases-loop-i = search in
    let at-start : tie.Start invariant-loop-i decreases-loop-i = search in
    let s = at-start.args in
    let w = at-loop.loop-i in
    let q = c.before.before.span_at-q.ensures in
    let z = pos_of_ne-zero at-else2.if-lines-eq0.false in
    let lines = (s.place - at-span-at.span_at-p.result.begin) / 65536 in
    skip_to s.s.now s.from s.place (w.i + lines - 1) (w.i + lines) at-start.requires.0 (omega arith) (omega arith)
    (omega (arith, c.if-place-q.false, q.begins))

returns : tie.Need-returns invariant-loop-i decreases-loop-i
returns c = c.before.loop-i.invariant

pub skip_spec : {M : Type 1} → statement M
skip_spec =
    tie.close (tie.spec
    invariant-loop-i decreases-loop-i loop-i-init (search rules) returns-then-place-p (search rules) returns-then-lines-eq0 (search rules)
    returns-then-s-i (search rules) overflow_sub-i span_at-q-requires overflow_add-q returns-then-place-q (search rules) loop-i-smaller
    loop-i-preserved returns)
