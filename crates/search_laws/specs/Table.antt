-- The kept table of pair penalties, and a move's renewal of it. Assumes nothing.
use Rattle.std.specs.Prelude.{List, ◌≢◌, ◌≡◌, ℕ, ◌+◌, ◌*◌, ◌<◌, length, get_or}
use Rattle.model.specs.Layout.{Job, Layout}
use Rattle.model.specs.declared.Placement.{Placement}
use Rattle.search_laws.specs.PieceSum.{penalty_between, penalty_placed}

-- the place of pieces i and k in the table
abbrev pub entry : ℕ → ℕ → ℕ
entry i k = i * 64 + k

-- the table holds the penalties of the pieces below n
pub record PenaltyTable (j : Job) (v : Layout) (n : ℕ) (T : List ℕ) : Type 0 where
  pub size : length T ≡ 4096
  pub holds : (i k : ℕ) → i < n → k < n → i ≢ k → get_or T (entry i k) 0 ≡ penalty_between j v i k

-- piece i, placed at p, has its penalties with the pieces below k; those of two other pieces are the layout's
pub record Renewed (j : Job) (v : Layout) (n i : ℕ) (p : Placement) (k : ℕ) (T : List ℕ) : Type 0 where
  pub size : length T ≡ 4096
  pub others : (a b : ℕ) → a < n → b < n → a ≢ b → a ≢ i → b ≢ i → get_or T (entry a b) 0 ≡ penalty_between j v a b
  pub row : (b : ℕ) → b < k → i ≢ b → get_or T (entry i b) 0 ≡ penalty_placed j v i p b
  pub column : (b : ℕ) → b < k → i ≢ b → get_or T (entry b i) 0 ≡ penalty_placed j v i p b
