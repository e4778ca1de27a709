-- `pair_runs::unbiased`: the number fits, so reading it as signed and back changes nothing. Assumes nothing.
use Rattle.list_laws.proofs.Kit.{◌∙◌, ap, subst, sym, ◌-ℤ◌, pos, sub_ℕ, ℤ, rules}
use mir.Syntax.{w32}
use mir.Val.{SFits, to_z, of_z}
use mir.ValLaws.{to_z-of_z}
use Rattle.pair_runs.proofs.Offsets.{unbiased_fits, small_signed}
use Rattle.pair_runs.proofs.unbiased.Statement.{statement}
use Rattle.pair_runs.proofs.unbiased.Tie as tie

overflow_sub-result : tie.Need-overflow_sub-result
overflow_sub-result c =
    let k = c.args.k in
    subst (λ (z : ℤ). SFits w32 (z -ℤ pos 262)) (sym (small_signed k c.requires)) (unbiased_fits k c.requires)

returns : tie.Need-returns
returns c =
    let k = c.args.k in
    ap (λ (z : ℤ). to_z w32 (of_z w32 (z -ℤ pos 262))) (small_signed k c.requires) ∙ to_z-of_z w32 (sub_ℕ k 262) (unbiased_fits k c.requires)

pub unbiased_spec : {M : Type 1} → statement M
unbiased_spec = tie.close (tie.spec
    (search rules) overflow_sub-result returns)
