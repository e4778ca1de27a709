-- What a run is given where none of its causes of refusal is there. Assumes nothing.
use Rattle.list_laws.proofs.Kit.{◌∙◌, ◌≡◌, ap, sym, Bool, false, List, ℕ, length, length-map}
use Rattle.model.specs.Lent.{Lent}
use Rattle.model.specs.Buffer.{entry_of, placement_of, layout_of, entries_of}
use Rattle.text_laws.proofs.Entries.{entries_read_back}
use Rattle.text_laws.specs.Outcomes.{NoCause}
use Rattle.causes.specs.Asked.{weighted_causes}
use Rattle.causes.proofs.Passed.{Weighable, weighted_passed}
use Rattle.run_memory.specs.Ready.{Given}

-- the layout as its entries are written and the weights are such as a run takes
pub run_given : (l : Lent) (es : List (List ℕ)) (ws : List ℕ) (wrong : Bool) → NoCause (weighted_causes l es ws wrong false) → (written : List (List ℕ))
    → written ≡ entries_of (layout_of es) → Given l written ws
run_given l es ws wrong none written e =
    let passed : Weighable l es ws wrong false = weighted_passed l es ws wrong false none in
    let same : layout_of written ≡ layout_of es = ap layout_of e ∙ entries_read_back (layout_of es) in
    record {
      laid =
          record {
            well = passed.laid.well;
            whole = ap length e ∙ length-map (layout_of es) entry_of ∙ length-map es placement_of ∙ passed.laid.whole;
            valid = rw same passed.laid.valid;
          };
      written = ap entries_of same ∙ sym e;
      weights = passed.weights;
    }
