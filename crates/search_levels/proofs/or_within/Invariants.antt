-- `search_levels::or_within`: each turn finishes one word, with the word below it in hand. Assumes nothing.
use Rattle.search_words.proofs.Moved.{Moving}
use Rattle.search_levels.proofs.or_within.Given as goal

abbrev pub invariant-loop-j : goal.invariant-loop-j
invariant-loop-j l = Moving l.fn.ws l.at l.fn.ws l.start l.blocks l.s l.ws l.low l.j
