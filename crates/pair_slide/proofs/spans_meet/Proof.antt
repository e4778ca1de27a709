-- `pair_slide::spans_meet` meets its contract: each way out follows one of the two tests. Assumes nothing.
use Rattle.list_laws.proofs.Kit.{rules, le-ltb, lt-ltb}
use Rattle.pair_slide.proofs.spans_meet.Statement.{statement}
use Rattle.pair_slide.proofs.spans_meet.Tie as tie

returns-then-a-b : tie.Need-returns-then-a-b
returns-then-a-b c = simp (lt-ltb _ _ c.if-a-b.true)

returns-else-a-b : tie.Need-returns-else-a-b
returns-else-a-b c = simp (le-ltb _ _ c.if-a-b.false)

pub spans_meet_spec : {M : Type 1} → statement M
spans_meet_spec = tie.close (tie.spec
    (search rules) (search rules) (search rules) (search rules) returns-then-a-b returns-else-a-b)
