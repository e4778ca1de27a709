-- `search_words::spread`: each turn finishes one word, of words that no turn before it touched. Assumes nothing.
use Rattle.list_laws.proofs.Kit.{refl, arith, ◌-◌}
use Rattle.search_words.proofs.Growth.{spread_start, spread_step, spread_none, spread_end}
use Rattle.search_words.proofs.spread.Goals as goal

pub returns-then-count-skip : goal.returns-then-count-skip
returns-then-count-skip c = spread_none c.args.count c.args.s c.args.words.now c.if-count-skip.true

pub loop-j-init : goal.loop-j-init
loop-j-init c = record { above = omega arith; spreading = spread_start c.args.count c.args.s c.args.words.now (omega arith) }

pub loop-j-preserved : goal.loop-j-preserved
loop-j-preserved c =
    let a = c.args in
    let o = c.loop-j in
    record {
      above = omega arith;
      spreading =
          spread_step a.count a.s a.words.now o.words o.a (o.j - 1) _ (omega arith) (omega arith) refl (omega arith) o.invariant.spreading;
    }

pub returns : goal.returns
returns c =
    let a = c.args in
    let o = c.loop-j in
    spread_end a.count a.s a.words.now o.words o.a (o.j - 1) (omega arith) (omega arith) o.invariant.spreading
