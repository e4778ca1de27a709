-- `search_words::or_row`: each turn finishes one word, with the word below it in hand. Assumes nothing.
use Rattle.search_words.proofs.Moved.{Moving}
use Rattle.search_words.proofs.or_row.Given as goal

abbrev pub invariant-loop-j : goal.invariant-loop-j
invariant-loop-j l = Moving l.fn.to l.at l.from l.start l.blocks l.s l.to l.low l.j
