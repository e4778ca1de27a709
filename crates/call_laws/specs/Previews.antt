-- What the figures of a preview are (document 02, point 3). The theorem is `preview_given` in proofs/Previews. Assumes nothing.
use Rattle.std.specs.Prelude.{List, ◌≢◌, ◌≡◌, ℕ, set}
use Rattle.model.specs.Layout.{place_of, with_place, used_length}
use Rattle.model.specs.Lent.{Lent, job_of}
use Rattle.model.specs.Buffer.{entry_of, layout_of}
use Rattle.model.specs.Refusal.{given}
use Rattle.model.specs.Calls.{weighted_sum_call, used_length_call}
use Rattle.model.specs.declared.Figures.{Figures}
use Rattle.model.specs.declared.Placement.{Placement}
use Rattle.descent_laws.specs.Claims.{ValidLayout}
use Rattle.call_laws.specs.Overlaps.{SumClaims}
use Rattle.call_laws.specs.Lengths.{UsedClaims}

-- the layout buffer after the move: piece i's entry is that of p
abbrev pub entries_with : List (List ℕ) → ℕ → Placement → List (List ℕ)
entries_with es i p = set es i (entry_of p)

-- what figures that are given mean, for piece i placed at p in the lent layout
pub record PreviewClaims (l : Lent) (es : List (List ℕ)) (ws : List ℕ) (i : ℕ) (p : Placement) (f : Figures) : Type 0 where
  -- in the moved layout piece i lies at p, every other piece where it was, and each inside in a turn allowed to it
  pub there : place_of (with_place (layout_of es) i p) i ≡ p
  pub others_stay : (k : ℕ) → k ≢ i → place_of (with_place (layout_of es) i p) k ≡ place_of (layout_of es) k
  pub valid : ValidLayout (job_of l) (with_place (layout_of es) i p)
  -- the sum is its weighted sum, 0 exactly when no two of its pieces conflict
  pub sum_of : SumClaims (job_of l) ws (with_place (layout_of es) i p) f.sum
  -- the length is its used length
  pub length_is : f.length ≡ used_length (job_of l) (with_place (layout_of es) i p)
  pub length_of : UsedClaims (job_of l) (with_place (layout_of es) i p) f.length
  -- once the move is made in the buffer, the calls for the sum and for the used length give these figures
  pub sum_after_move : weighted_sum_call l (entries_with es i p) ws ≡ given f.sum
  pub length_after_move : used_length_call l (entries_with es i p) ≡ given f.length
  -- with the piece's own placement they are those that the calls give of the layout as it is
  pub sum_at_rest : p ≡ place_of (layout_of es) i → weighted_sum_call l es ws ≡ given f.sum
  pub length_at_rest : p ≡ place_of (layout_of es) i → used_length_call l es ≡ given f.length
