-- `counts_well`: a sheet has at most 65,536 pixels, so there is room.
-- Assumes nothing.
use Rattle.list_laws.proofs.Kit.{◌≤◌, arith, length, rules}
use Rattle.job_laws.proofs.Checked.{facts}
use Rattle.sheet_check.proofs.counts_well.Statement.{statement}
use Rattle.sheet_check.proofs.counts_well.Tie as tie

counts_match-requires : tie.Need-counts_match-requires
counts_match-requires c κs =
    let at-start : tie.Start = search in
    let pre = at-start.requires in
    let area = (facts _ pre.well).area in
    let full = pre.full in
    let room : length at-start.args.counts.now ≤ 65536 = omega arith in
    (pre, room)

pub counts_well_spec : {M : Type 1} → statement M
counts_well_spec = tie.close (tie.spec
    (search rules) counts_match-requires (λ c. search rules))
