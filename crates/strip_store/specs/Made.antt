-- A job whose strips can be made, and what filling a store leaves. Assumes nothing.
use Rattle.std.specs.Prelude.{true, List, map, ◌≡◌, ℕ, length}
use Rattle.std.proofs.lemmas.List.Edits.{sets}
use Rattle.model.specs.Buffer.{strip_entry}
use Rattle.model.specs.Layout.{Job}
use Rattle.model.specs.Lent.{Lent, lent_well}
use Rattle.model.specs.Store.{store, starts}
use Rattle.model.specs.declared.Direction.{Direction}

-- the job passes its check and there is a turn for each piece
pub record StoreReady (l : Lent) (ts : List ℕ) : Type 0 where
  pub well : lent_well l ≡ true
  pub turns : length ts ≡ l.size.count

-- the store and the starts are stored from the front on, as far as there is room, and `total` strips are needed
pub record StoreFilled (d : Direction) (j : Job) (ts : List ℕ) (strips₀ : List (List ℕ)) (starts₀ : List ℕ) (strips₁ : List (List ℕ)) (starts₁ : List ℕ)
    (total : ℕ) : Type 0 where
  pub all : total ≡ length (store d j ts)
  pub stored : strips₁ ≡ sets strips₀ 0 (map strip_entry (store d j ts))
  pub started : starts₁ ≡ sets starts₀ 0 (starts d j ts)
