-- `pair_nofit::mark_line`: one more strip, and past the line's strips there are no meetings. Assumes nothing.
use Rattle.list_laws.proofs.Kit.{arith}
use Rattle.pair_nofit.proofs.Kept.{line_order, line_more, line_past}
use Rattle.pair_nofit.proofs.mark_line.Goals as goal

pub returns-then-p-q-clause-marked : goal.returns-then-p-q-clause-marked
returns-then-p-q-clause-marked c =
    let s = c.args in
    let w = c.loop-j in
    let p = c.placed_at-p.ensures.line in
    let q = c.placed_at-q.ensures.line in
    record {
      grown = w.invariant.grown;
      kept =
          line_past s.gap s.a.now s.u s.b.now s.v w.marks s.i s.from w.j w.invariant.kept
          (λ l a b. omega (arith, c.if-p-q.true, line_order s.b.now c.requires.fact_1 w.j l a b));
    }

pub loop-j-preserved : goal.loop-j-preserved
loop-j-preserved c =
    let s = c.args in
    let w = c.loop-j in
    let p = c.placed_at-p.ensures in
    let q = c.placed_at-q.ensures in
    let l = c.loop-j-test.true in
    let more =
    line_more s.gap s.a.now s.u s.b.now s.v s.marks.now w.marks s.i s.from w.j c.saturating_sub-low.result c.saturating_sub-high.result c.requires.fact_2.0 l
    c.placed_at-p.result c.placed_at-q.result p q (omega (arith, p.line, q.line, c.if-p-q.false, c.requires.fact_4 w.j w.auto.j l)) c.saturating_sub-low.ensures
    c.saturating_sub-high.ensures w.invariant.grown w.invariant.kept c.cover-covered.new.marks c.cover-covered.ensures.marked in
    record { grown = more.0; kept = more.1; covers = c.cover-covered.ensures.covers }
