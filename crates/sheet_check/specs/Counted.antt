-- The counts of a record made anew, and what that asks: that the checks before have passed. Assumes nothing.
use Rattle.std.specs.Prelude.{Bool, true, ◌≡◌, List, ℕ, ◌*◌, ◌<◌, eqb, length, get_or}
use Rattle.model.specs.Bounded.{all_below}
use Rattle.model.specs.Layout.{Job}
use Rattle.model.specs.Lent.{Lent, job_of, lent_well, piece_bound}
use Rattle.model.specs.Cover.{map_from, laid_on, laid_count, entry_well}
use Rattle.model.specs.declared.Entry.{Entry}
use Rattle.sheet_counts.specs.Stamp.{moved}
use Rattle.sheet_counts.specs.declared.Change.TheVariants.{OneMore}

-- the counts of a record may be made anew: the job is well, every entry is, and there is a count for each pixel
pub record CanCount (l : Lent) (es : List Entry) (room : ℕ) : Type 0 where
  pub well : lent_well l ≡ true
  pub entries : all_below piece_bound (entry_well (job_of l) es) ≡ true
  pub full : room ≡ l.size.rows * l.size.columns

-- one more on each pixel that piece i covers, where it is laid
abbrev pub added_entry : Job → List Entry → ℕ → List ℕ → List ℕ
added_entry j es i cs = map_from (λ k c. moved OneMore (laid_on j es k i) c) 0 cs

-- each count is the number of laid pieces on its pixel: the last part of the test `sheet_well`
abbrev pub counts_well : Job → List Entry → List ℕ → Bool
counts_well j es cs = all_below (j.size.rows * j.size.columns) (λ k. eqb (get_or cs k 0) (laid_count j es k))

-- the counts made anew: one a pixel, the number of laid pieces on it
pub record Recounted (j : Job) (es : List Entry) (cs : List ℕ) : Type 0 where
  pub full : length cs ≡ j.size.rows * j.size.columns
  pub counts : (k : ℕ) → k < j.size.rows * j.size.columns → get_or cs k 0 ≡ laid_count j es k
