-- Document 01, 'Job text', 'Start, layout text, sheet' and 'When a call says no': when a reader gives what. A text is read as a job or a
-- layout exactly where it is what is written of it, what is written is well, and the buffers suffice. A layout has one text, a job one of
-- version 3, where nothing is locked one of version 2, and where its gap is 0 too one of version 1. Assumes nothing.
use Rattle.std.specs.Prelude.{true, List, ◌≡◌, ℕ, ◌≤◌, ◌<◌, length}
use Rattle.model.specs.Layout.{Job, Layout, allowed, inside, place_of}
use Rattle.model.specs.Lent.{Lent, lent_well}
use Rattle.model.specs.LayoutText.{layout_text}
use Rattle.text_laws.specs.JobWriting.{TextOf, exact_job}

-- the text is one of the job's, which passes the check of a lent job, has nothing beyond its entries and pixels, and finds room
pub record JobWritten (text : List ℕ) (tableLength pixelsLength : ℕ) (k : Lent) : Type 0 where
  pub written : TextOf text k
  pub well : lent_well k ≡ true
  pub whole : exact_job k ≡ k
  pub entries_room : k.size.count ≤ tableLength
  pub bytes_room : length k.pixels ≤ pixelsLength

-- the text is that of the layout, which has a placement for each piece, inside and in an allowed turn, and finds just its room
pub record LayoutWritten (j : Job) (text : List ℕ) (layout_length : ℕ) (v : Layout) : Type 0 where
  pub written : text ≡ layout_text j v
  pub size : length v ≡ j.size.count
  pub turns : (i : ℕ) → i < j.size.count → allowed j i (place_of v i).turn ≡ true
  pub within : (i : ℕ) → i < j.size.count → inside j i (place_of v i) ≡ true
  pub room : layout_length ≡ j.size.count
