-- `search_levels::widen_levels`: each turn doubles the marks of the last level. Assumes nothing.
use Rattle.list_laws.proofs.Kit.{refl, subst, ℕ, arith}
use Rattle.search_levels.specs.Levels.{Grown}
use Rattle.search_levels.proofs.Growing.{grown_one, grown_more, next_fits, doubled}
use Rattle.search_levels.proofs.widen_levels.Goals as goal

pub loop-k-init : goal.loop-k-init
loop-k-init c = record { place = omega arith; moves = refl; grown = grown_one _ _ }

pub widen_next-requires : goal.widen_next-requires
widen_next-requires c = let h = next_fits c.args.ws.now c.args.size c.args.levels c.loop-k._k c.requires (omega arith) in omega arith

pub overflow_add-from : goal.overflow_add-from
overflow_add-from c = let h = next_fits c.args.ws.now c.args.size c.args.levels c.loop-k._k c.requires (omega arith) in omega arith

pub overflow_add-s : goal.overflow_add-s
overflow_add-s c = let h = next_fits c.args.ws.now c.args.size c.args.levels c.loop-k._k c.requires (omega arith) in omega arith

pub loop-k-preserved : goal.loop-k-preserved
loop-k-preserved c =
    let a = c.args in
    let o = c.loop-k in
    let i = o.invariant in
    record {
      place = omega arith;
      moves = omega (arith, doubled o._k);
      grown = grown_more a.ws.now a.size o.ws _ o._k o.from o.s i.place i.moves i.grown c.widen_next.ensures;
    }

pub returns : goal.returns
returns c =
    let o = c.loop-k in
    subst (λ (n : ℕ). Grown c.args.ws.now c.args.size n o.ws) (omega arith) o.invariant.grown
