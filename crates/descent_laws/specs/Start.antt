-- What is asked and said of the start layout (document 01, 'Start, layout text, sheet'; document 02, point 6: it is given the locked
-- placements). The theorems are in proofs/Start, gathered in `start_claims`. Assumes nothing.
use Rattle.std.specs.Prelude.{true, false, ◌⊎◌, ◌≡◌, ℕ, ◌<◌, ◌≤◌, length}
use mathlib.Core.List.{List, [], ◌∷◌, Memᴰ}
use Rattle.model.specs.Layout.{Job, Layout, allowed, is_locked, inside, place_of}
use Rattle.model.specs.Start.{box_columns, box_rows, start, start_of_all}
use Rattle.descent_laws.specs.Claims.{ValidLayout, LockedStay}

-- each piece's box, in turn 0, is no longer and no wider than the sheet
pub record BoxesFit (j : Job) : Type 0 where
  pub columns_fit : (i : ℕ) → i < j.size.count → box_columns j i ≤ j.size.columns
  pub rows_fit : (i : ℕ) → i < j.size.count → box_rows j i ≤ j.size.rows

-- piece a comes before piece b: it is longer, or as long with the lower number
abbrev pub Before : Job → ℕ → ℕ → Type 0
Before j a b = (box_columns j b < box_columns j a) ⊎ ((box_columns j a ≡ box_columns j b) × (a < b))

-- each piece of the list comes before those behind it
abbrev pub Falling : Job → List ℕ → Type 0
Falling j [] = Unit {0}
Falling j (a ∷ rest) = ((b : ℕ) → Memᴰ b rest → Before j a b) × Falling j rest

-- ── with locked pieces ──

-- a placement for each piece; those of locked pieces are inside, in a turn allowed to the piece. Nothing is asked of the others
pub record LockedGiven (j : Job) (v : Layout) : Type 0 where
  pub one_per_piece : length v ≡ j.size.count
  pub inside_sheet : (i : ℕ) → i < j.size.count → is_locked j i ≡ true → inside j i (place_of v i) ≡ true
  pub turn_allowed : (i : ℕ) → i < j.size.count → is_locked j i ≡ true → allowed j i (place_of v i).turn ≡ true

-- what is said of the start layout w, where the placements of v are given
pub record StartClaims (j : Job) (v w : Layout) : Type 0 where
  -- each locked piece lies where it was given
  pub locked_stay : LockedStay j v w
  -- each piece lies inside in a turn allowed to it
  pub valid : ValidLayout j w
  -- what was given for free pieces plays no part: from every layout with the same locked placements the start is the same
  pub free_unread : (u : Layout) → length u ≡ length v → LockedStay j v u → start j u ≡ w
  -- where no piece is locked it is document 01's start layout
  pub none_locked : ((i : ℕ) → i < j.size.count → is_locked j i ≡ false) → w ≡ start_of_all j
