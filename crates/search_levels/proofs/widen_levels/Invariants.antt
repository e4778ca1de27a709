-- `search_levels::widen_levels`: after k turns the levels up to k are made. Assumes nothing.
use Rattle.list_laws.proofs.Kit.{◌≡◌, ◌*◌, ◌+◌, ◌^◌}
use Rattle.search_levels.specs.Levels.{Grown}
use Rattle.search_levels.proofs.widen_levels.Given as goal

abbrev pub invariant-loop-k : goal.invariant-loop-k
invariant-loop-k l = record { place : l.from ≡ l._k * l.size; moves : l.s ≡ 2 ^ l._k; grown : Grown l.fn.ws l.size (l._k + 1) l.ws }
