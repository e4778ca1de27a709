-- `search_words::spread`: the words from j on are done, and none below them is touched yet. Assumes nothing.
use Rattle.list_laws.proofs.Kit.{◌-◌, ◌/◌, ◌<◌}
use Rattle.search_words.proofs.Growth.{Spreading}
use Rattle.search_words.proofs.spread.Given as goal

abbrev pub invariant-loop-j : goal.invariant-loop-j
invariant-loop-j l = record { above : l.s / 64 < l.j; spreading : Spreading l.count l.s l.fn.words l.words l.a (l.j - 1) }
