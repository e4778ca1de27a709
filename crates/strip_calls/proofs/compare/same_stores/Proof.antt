-- `strip_calls::compare::same_stores` meets its contract: one store after the other. Assumes nothing.
use Rattle.list_laws.proofs.Kit.{◌∙◌, ap, ap₂, sym, ◌&&◌, rules}
use Rattle.model.specs.Lent.{lent_by, job_of}
use Rattle.model.specs.Store.{store_well}
use Rattle.model.specs.Calls.{stores_well}
use Rattle.model.specs.declared.Direction.TheVariants.{Vertical}
use Rattle.strip_calls.proofs.compare.same_stores.Statement.{statement}
use Rattle.strip_calls.proofs.compare.same_stores.Tie as tie

returns-then-not-same_store : tie.Need-returns-then-not-same_store
unfolding stores_well
returns-then-not-same_store c =
    let at-start : tie.Start = search in
    let a = at-start.args in
    ap (λ b.
    b && store_well Vertical (job_of (lent_by a.size a.table.now a.pixels.now)) a.turns.now a.column_strips.now a.column_starts.now)
    (sym c.if-not-same_store.true ∙ c.same_store.ensures)

returns : tie.Need-returns
unfolding stores_well
returns c = ap₂ ◌&&◌ (sym c.if-not-same_store.false ∙ c.same_store.ensures) c.same_store-2.ensures

pub same_stores_spec : {M : Type 1} → statement M
same_stores_spec = tie.close (tie.spec
    (λ c κs. search rules) returns-then-not-same_store (λ c κs. search rules) returns)
