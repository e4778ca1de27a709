-- What one lay or withdraw that is given does to a sheet (document 01, 'Start, layout text, sheet'). The theorems are in
-- proofs/Effects. Assumes nothing.
use Rattle.std.specs.Prelude.{true, ◌≢◌, ◌≡◌, ℕ, ◌+◌, ◌*◌, ◌<◌, ◌≤◌, ◌-◌, get_or}
use Rattle.model.specs.Bounded.{one_if}
use Rattle.model.specs.Layout.{Job}
use Rattle.model.specs.Refusal.{refused, laid_already, not_laid}
use Rattle.model.specs.Cover.{Sheet, laid_at, entry_in, covers_pixel, withdraw, laying, called, sheet_well, blank, withdrawing}
use Rattle.model.specs.declared.Placement.{Placement}

-- what a given lay of piece i at placement p makes of s
pub record LayGives (j : Job) (s : Sheet) (i : ℕ) (p : Placement) (s' : Sheet) : Type 0 where
  -- the piece's entry holds the placement, and the other entries are as before
  pub entry : entry_in s'.pieces i ≡ laid_at p
  pub others : (m : ℕ) → m ≢ i → entry_in s'.pieces m ≡ entry_in s.pieces m
  -- each count is one more exactly where the piece covers the pixel, and at most the number of pieces
  pub counts : (k : ℕ) → k < j.size.rows * j.size.columns → get_or s'.counts k 0 ≡ get_or s.counts k 0 + one_if (covers_pixel j i p k)
  pub bound : (k : ℕ) → k < j.size.rows * j.size.columns → get_or s'.counts k 0 ≤ j.size.count
  -- the sheet is one that some list of calls gives
  pub well : sheet_well j s' ≡ true
  -- the same lay again is refused with 13, and a withdraw at once, where the piece is free, gives the same sheet back
  pub again : called j s' (laying i p) ≡ refused (record { number = laid_already; first = 0; second = 0 })
  pub back : withdraw j s' i ≡ s

-- what a given withdraw of piece i makes of s
pub record WithdrawGives (j : Job) (s : Sheet) (i : ℕ) (s' : Sheet) : Type 0 where
  -- the piece's entry is blank, and the other entries are as before
  pub entry : entry_in s'.pieces i ≡ blank
  pub others : (m : ℕ) → m ≢ i → entry_in s'.pieces m ≡ entry_in s.pieces m
  -- the old count is at least 1 where the piece covered the pixel: the subtraction does not stop at 0
  pub there : (k : ℕ) → k < j.size.rows * j.size.columns → one_if (covers_pixel j i (entry_in s.pieces i).place k) ≤ get_or s.counts k 0
  -- each count is one less exactly where the piece covered the pixel, and at most the number of pieces
  pub counts : (k : ℕ) → k < j.size.rows * j.size.columns
      → get_or s'.counts k 0 ≡ get_or s.counts k 0 - one_if (covers_pixel j i (entry_in s.pieces i).place k)
  pub bound : (k : ℕ) → k < j.size.rows * j.size.columns → get_or s'.counts k 0 ≤ j.size.count
  -- the sheet is one that some list of calls gives
  pub well : sheet_well j s' ≡ true
  -- a second withdraw is refused with 14
  pub again : called j s' (withdrawing i) ≡ refused (record { number = not_laid; first = 0; second = 0 })
