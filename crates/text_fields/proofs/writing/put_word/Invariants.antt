-- `text_fields::writing::put_word`: storing the rest of the word is what is left of storing the whole. Assumes nothing.
use Rattle.list_laws.proofs.Kit.{◌≡◌, ◌+◌, drop, sets}
use Rattle.text_fields.proofs.writing.put_word.Given as goal

abbrev pub invariant-loop-k : goal.invariant-loop-k
invariant-loop-k l = sets l.text (l.at + l.k) (drop l.k l.word) ≡ sets l.initial.text l.at l.word
