-- `whole_part`: the two tests say what the cast asks, each number by its bit pattern. Assumes nothing.
use Rattle.std.proofs.Common.{T, sym, subst, rules}
use lib.Ieee.{of_bits, neg}
use Rattle.examples_cut.proofs.whole_part.Statement.{statement}
use Rattle.examples_cut.proofs.whole_part.Tie as tie

truncating_f64_to_u64-requires : tie.Need-truncating_f64_to_u64-requires
unfolding of_bits neg
truncating_f64_to_u64-requires c κs = (subst T (sym c.before.if-x.true) tt, subst T (sym c.if-x-2.true) tt)

pub whole_part_spec : {M : Type 1} → statement M
whole_part_spec = tie.close (tie.spec
    truncating_f64_to_u64-requires (λ c. search rules) (λ c. search rules) (λ c. search rules))
