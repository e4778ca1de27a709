-- `pair_overlap::next_line`: by the test. Assumes nothing.
use Rattle.list_laws.proofs.Kit.{refl, inl, inr, rules}
use Rattle.pair_overlap.proofs.next_line.Statement.{statement}
use Rattle.pair_overlap.proofs.next_line.Tie as tie

returns-then-k-lines : tie.Need-returns-then-k-lines
returns-then-k-lines c = inl (c.if-k-lines.true, refl)

returns : tie.Need-returns
returns c = inr (c.if-k-lines.false, refl)

pub next_line_spec : {M : Type 1} → statement M
next_line_spec = tie.close (tie.spec
    (search rules) (search rules) returns-then-k-lines returns)
