-- `pair_nofit::mark_shifts`: words of 0 mark nothing, and all intervals are marked in them. Assumes nothing.
use Rattle.pair_nofit.proofs.Marked.{marks_made}
use Rattle.pair_nofit.proofs.mark_shifts.Goals as goal

pub returns : goal.returns
returns c =
    let s = c.args in
    marks_made s.gap s.a.now s.u s.b.now s.v s.marks.now _ _ (c.fill.ensures.after (λ y e. e)) c.mark_lines.ensures
