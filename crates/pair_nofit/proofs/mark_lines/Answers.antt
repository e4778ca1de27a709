-- `pair_nofit::mark_lines`: one more line. Assumes nothing.
use Rattle.pair_nofit.proofs.Kept.{gap_more, gap_done}
use Rattle.pair_nofit.proofs.mark_lines.Goals as goal

pub loop-k-preserved : goal.loop-k-preserved
loop-k-preserved c =
    let s = c.args in
    let w = c.loop-k in
    let m = c.mark_all-covered in
    record {
      kept = gap_more s.gap s.a.now s.u s.b.now s.v s.marks.now w.marks m.new.marks w.k c.loop-k-test.true w.invariant.kept m.ensures.marked;
      covers = m.ensures.covers;
    }

pub returns : goal.returns
returns c =
    let s = c.args in
    let w = c.loop-k in
    gap_done s.gap s.a.now s.u s.b.now s.v s.marks.now w.marks w.k c.loop-k-test.false w.invariant.kept
