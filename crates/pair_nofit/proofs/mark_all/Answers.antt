-- `pair_nofit::mark_all`: one more strip of the first piece. Assumes nothing.
use Rattle.pair_nofit.proofs.Kept.{all_more}
use Rattle.pair_nofit.proofs.mark_all.Goals as goal

pub loop-i-preserved : goal.loop-i-preserved
loop-i-preserved c =
    let s = c.args in
    let w = c.loop-i in
    let m = c.mark_line-covered in
    record {
      kept =
          all_more s.gap s.a.now s.u s.b.now s.v c.requires.fact_1 s.marks.now w.marks m.new.marks w.i w.j c.line_start-j.result c.loop-i-test.true
          c.placed_at-p.result.line c.placed_at-p.ensures.line w.invariant.kept c.line_start-j.ensures m.ensures.marked;
      covers = m.ensures.covers;
    }
