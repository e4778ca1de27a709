-- `search_peel::low_bits` meets its contract: the set bits that are not shifted out. Assumes nothing.
use Rattle.list_laws.proofs.Kit.{arith, rules}
use Rattle.search_peel.proofs.Windows.{low_from}
use Rattle.search_peel.proofs.low_bits.Statement.{statement}
use Rattle.search_peel.proofs.low_bits.Tie as tie

returns : tie.Need-returns
returns c = low_from c.args.count (omega arith)

pub low_bits_spec : {M : Type 1} → statement M
low_bits_spec = tie.close (tie.spec
    (search rules) (search rules) returns)
