-- `search_classes::put_classes`: the words from the first on are the ones that the loop went over. Assumes nothing.
use Rattle.list_laws.proofs.Kit.{◌≡◌, ◌++◌, arith, drop, get_or, length, subst, sym, take}
use Rattle.std.proofs.Common.{length-take-le}
use Rattle.std.proofs.lemmas.List.{get_or_append_left}
use Rattle.model.specs.Lent.{lent_by, job_of}
use Rattle.search_classes.proofs.put_classes.Goals as goal
use Rattle.search_classes.proofs.put_classes.Invariants.{ClassOf}

pub returns : goal.returns
unfolding job_of
returns c i l =
    let o = c.loop-i in
    let a = c.args in
    let n : length (take a.size.count a.words.now) ≡ a.size.count = length-take-le a.size.count a.words.now c.requires.fact_2 in
    let e : get_or (o.word-items ++ drop a.size.count a.words.now) i 0 ≡ get_or o.word-items i 0 = get_or_append_left o.word-items _ 0 i (omega arith) in
    subst (ClassOf (job_of (lent_by a.size a.table.now a.pixels.now)) i) (sym e) (o.invariant i (omega arith))
