-- `pair_nofit_calls::put_line`: the marks' runs are the line's; they are counted with no room and then put where there is room. Assumes nothing.
use Rattle.list_laws.proofs.Kit.{◌∙◌, ◌≡◌, ap, min, arith, ℤ, rules}
use mir.Syntax.{w32}
use mir.Val.{to_z, of_z}
use mir.ValLaws.{to_z-of_z}
use Rattle.model.specs.Overlap.{up, down}
use Rattle.pair_runs.specs.Runs.{farthest}
use Rattle.pair_nofit_calls.proofs.Lined.{marks_line, line_short, line_room}
use Rattle.pair_nofit_calls.proofs.put_line.Statement.{statement}
use Rattle.pair_nofit_calls.proofs.put_line.Tie as tie

mark_shifts-requires : tie.Need-mark_shifts-requires
mark_shifts-requires c κs =
    let at-start : tie.Start = search in
    let down-small = c.before.before.down.ensures in
    let up_small = c.before.up.ensures in
    (at-start.requires.0, (at-start.requires.1.0, ((omega arith, omega arith), (omega arith, omega arith), at-start.requires.1.1)))

put_runs-needed-requires : tie.Need-put_runs-needed-requires
put_runs-needed-requires c κs =
    let at-mark-shifts : tie.After-mark_shifts = search in
    omega (arith, at-mark-shifts.mark_shifts.ensures.same)

put_runs-requires : tie.Need-put_runs-requires
put_runs-requires c κs =
    let at-mark-shifts : tie.After-mark_shifts = search in
    omega (arith, at-mark-shifts.mark_shifts.ensures.same)

returns-then-short : tie.Need-returns-then-short
returns-then-short c =
    let at-put-runs : tie.After-put_runs-needed = search in
    let at-mark-shifts : tie.After-mark_shifts = search in
    let at_up : tie.After-up = search in
    let at-down : tie.After-down = search in
    let at-start : tie.Start = search in
    let s = at-start.args in
    let e : to_z w32 (of_z w32 s.offset) ≡ s.offset = to_z-of_z w32 s.offset at-start.ranges.offset in
    line_short s.gap s.a.now s.b.now s.offset _
    (marks_line s.gap s.a.now s.b.now s.offset _ _ _ _ (at-down.down.ensures ∙ ap (λ (z : ℤ). min (down z) farthest) e)
    (at_up.up.ensures ∙ ap (λ (z : ℤ). min (up z) farthest) e) at-mark-shifts.mark_shifts.ensures (omega arith)) s.out.now
    at-put-runs.put_runs-needed.new.out at-put-runs.put_runs-needed.result at-put-runs.put_runs-needed.ensures
    c.before.if-short.true c.plain_refusal.result c.plain_refusal.ensures

returns : tie.Need-returns
returns c =
    let at-else1 : tie.Else-short = search in
    let at-put-runs : tie.After-put_runs-needed = search in
    let at-mark-shifts : tie.After-mark_shifts = search in
    let at_up : tie.After-up = search in
    let at-down : tie.After-down = search in
    let at-start : tie.Start = search in
    let s = at-start.args in
    let e : to_z w32 (of_z w32 s.offset) ≡ s.offset = to_z-of_z w32 s.offset at-start.ranges.offset in
    line_room s.gap s.a.now s.b.now s.offset _
    (marks_line s.gap s.a.now s.b.now s.offset _ _ _ _ (at-down.down.ensures ∙ ap (λ (z : ℤ). min (down z) farthest) e)
    (at_up.up.ensures ∙ ap (λ (z : ℤ). min (up z) farthest) e) at-mark-shifts.mark_shifts.ensures (omega arith)) s.out.now
    at-put-runs.put_runs-needed.new.out at-put-runs.put_runs-needed.result at-put-runs.put_runs-needed.ensures
    at-else1.if-short.false c.before.put_runs.new.out c.before.put_runs.result c.before.put_runs.ensures

pub put_line_spec : {M : Type 1} → statement M
put_line_spec =
    tie.close (tie.spec
    (search rules) (search rules) (search rules) mark_shifts-requires (search rules) (search rules) (search rules) put_runs-needed-requires
    (search rules) (search rules) returns-then-short (search rules) put_runs-requires (search rules) returns)
