-- The numbers that a run is told by stand for that run. Assumes nothing.
use Rattle.list_laws.proofs.Kit.{◌≡◌, ap, refl}
use Rattle.model.specs.Descent.{Descent}
use Rattle.model.specs.Guided.{Guided}
use Rattle.model.specs.Buffer.{end_number}
use Rattle.model.specs.declared.End.{End}
use Rattle.model.specs.declared.End.TheVariants.{Clear, Settled, Spent}
use Rattle.c_results.specs.Runs.{end_told, descent_told, guided_told}

-- the number of an end tells that end
pub end_back : (e : End) → end_told (end_number e) ≡ e
end_back Clear = refl
end_back Settled = refl
end_back Spent = refl

-- a descent's numbers tell that descent
pub descent_back : (d : Descent) → descent_told (end_number d.end) d.sum d.made d.moves d.layout ≡ d
descent_back d =
    ap (λ (e : End). record { end = e; layout = d.layout; sum = d.sum; made = d.made; moves = d.moves }) (end_back d.end)

-- a guided run's numbers tell that run
pub guided_back : (g : Guided) → guided_told g.sum g.made g.moves g.layout g.weights ≡ g
guided_back g = refl
