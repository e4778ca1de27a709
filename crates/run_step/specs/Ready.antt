-- What a trial moves on: a layout buffer with the table of its penalties. Assumes nothing.
use Rattle.std.specs.Prelude.{List, ◌≡◌, ℕ}
use Rattle.model.specs.Lent.{Lent, job_of}
use Rattle.model.specs.Buffer.{layout_of, entries_of}
use Rattle.descent_laws.specs.Claims.{ValidLayout}
use Rattle.search_laws.specs.Table.{PenaltyTable}

-- a buffer that holds a valid layout just as its entries are written, and the table of the layout's penalties
pub record LaidOut (l : Lent) (layout : List (List ℕ)) (penalties : List ℕ) : Type 0 where
  pub valid : ValidLayout (job_of l) (layout_of layout)
  pub written : entries_of (layout_of layout) ≡ layout
  pub table : PenaltyTable (job_of l) (layout_of layout) l.size.count penalties
