-- A layout whose pieces can be pushed left and down. Assumes nothing.
use Rattle.std.specs.Prelude.{List, ◌≡◌, ℕ}
use Rattle.model.specs.Lent.{Lent}
use Rattle.model.specs.Buffer.{layout_of, entries_of}
use Rattle.model.specs.declared.Direction.TheVariants.{Horizontal, Vertical}
use Rattle.descent_laws.specs.LentLayout.{Laid}
use Rattle.layout_slides.specs.Slidable.{Drawn}

-- a checked job and a valid layout of it, as a layout is written, with the strips of all pieces along the rows and along the columns
pub record Pushable (l : Lent) (es rows rowSpans columns columnSpans : List (List ℕ)) : Type 0 where
  pub laid : Laid l es
  pub written : entries_of (layout_of es) ≡ es
  pub rows_drawn : Drawn Horizontal l.table l.pixels es rows rowSpans
  pub columns_drawn : Drawn Vertical l.table l.pixels es columns columnSpans
