-- A fresh array is as long as it is made, and each of its bytes is zero: stated of the literal as a whole, which the search would compute with.
use Rattle.list_laws.proofs.Kit.{ℕ, length-replicate}
use Rattle.search_lines.proofs.Keeping.{cleared_byte}
use Rattle.run_memory.proofs.memory.empty_lines.Goals as goal

pub returns : goal.returns
returns c = (length-replicate {A = ℕ} 524288 0, cleared_byte 524288)
