-- `pair_runs::put_run`: no run, no room for it, or stored. Assumes nothing.
use Rattle.list_laws.proofs.Kit.{◌∙◌, pos_of_ne-zero, arith, rules}
use mir.Syntax.{w32}
use mir.ValLaws.{to_z-of_z}
use Rattle.pair_runs.proofs.Offsets.{small_signed}
use Rattle.pair_runs.proofs.Putting.{put_none, put_past, put_one}
use Rattle.pair_runs.proofs.put_run.Statement.{statement}
use Rattle.pair_runs.proofs.put_run.Tie as tie

returns-then-count-eq0 : tie.Need-returns-then-count-eq0
returns-then-count-eq0 c = put_none _ _ _ _ c.if-count-eq0.true

returns-then-out-at : tie.Need-returns-then-out-at
returns-then-out-at c = put_past _ _ _ _ (pos_of_ne-zero c.before.if-count-eq0.false) c.if-out-at.true

returns : tie.Need-returns
returns c =
    let at-start : tie.Start = search in
    let a = at-start.args in
    put_one a.end a.count a.at a.out.now _ _ (pos_of_ne-zero c.before.before.if-count-eq0.false)
    (to_z-of_z w32 c.unbiased.result (record { sfits = c.unbiased.type_inv }) ∙ c.unbiased.ensures)
    (small_signed a.count (omega (arith, at-start.requires)))

pub put_run_spec : {M : Type 1} → statement M
put_run_spec =
    tie.close (tie.spec
    returns-then-count-eq0 (search rules) returns-then-out-at (search rules) (search rules) (search rules) (search rules) (search rules)
    (search rules) (search rules) (search rules) returns)
