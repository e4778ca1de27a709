-- The strips of the pieces of a layout, in the turns that it gives them, in a store where each piece has a part to itself: from the number of
-- its first pixel on, an entry for each pixel of its box. Some of them are made. Assumes nothing.
use Rattle.std.specs.Prelude.{List, [], map, ◌≢◌, ◌≡◌, ℕ, ◌+◌, ◌-◌, ◌<◌, ◌≤◌, length, get_or, take, drop}
use Rattle.model.specs.Piece.{Shape}
use Rattle.model.specs.Strip.{strips}
use Rattle.model.specs.Layout.{shape_in, place_of}
use Rattle.model.specs.Buffer.{strip_entry, layout_of}
use Rattle.model.specs.Lent.{lent_by, job_of, pixel_start, area_bound, piece_bound}
use Rattle.model.specs.declared.Direction.{Direction}
use Rattle.model.specs.declared.JobSize.{JobSize}
use Rattle.pair_measure.specs.Ready.{MeasureReady}

-- a layout whose pieces can be drawn: each is ready to be measured, and their boxes have no more pixels than those of a job
pub record Drawable (table es : List (List ℕ)) : Type 0 where
  pub few : length es ≤ piece_bound
  pub ready : (i : ℕ) → i < length es → MeasureReady table i (place_of (layout_of es) i)
  pub areas : pixel_start table (length es) ≤ area_bound

-- piece i of a lent job as the layout turns it; its pixels do not depend on the sheet
abbrev pub drawn_shape : JobSize → List (List ℕ) → List ℕ → List (List ℕ) → ℕ → Shape
drawn_shape size table pixels es i = shape_in (job_of (lent_by size table pixels)) (layout_of es) i

-- where the strips of piece i begin
abbrev pub span_start : List (List ℕ) → ℕ → ℕ
span_start spans i = get_or (get_or spans i []) 0 0

-- where they end
abbrev pub span_end : List (List ℕ) → ℕ → ℕ
span_end spans i = get_or (get_or spans i []) 1 0

-- not 0 once they are made
abbrev pub span_made : List (List ℕ) → ℕ → ℕ
span_made spans i = get_or (get_or spans i []) 2 0

-- the strips of piece i stand in its part of the store
pub record Stands (d : Direction) (table : List (List ℕ)) (pixels : List ℕ) (es : List (List ℕ)) (store spans : List (List ℕ)) (i : ℕ) : Type 0 where
  pub start : span_start spans i ≡ pixel_start table i
  pub end : (size : JobSize) → span_end spans i ≡ pixel_start table i + length (strips d (drawn_shape size table pixels es i))
  pub holds : (size : JobSize) → take (span_end spans i - span_start spans i) (drop (span_start spans i) store)
      ≡ map strip_entry (strips d (drawn_shape size table pixels es i))

-- a store with room for every piece, in which the strips of those that are made stand
pub record Kept (d : Direction) (table : List (List ℕ)) (pixels : List ℕ) (es : List (List ℕ)) (store spans : List (List ℕ)) : Type 0 where
  pub room : area_bound ≤ length store
  pub long : piece_bound ≤ length spans
  pub made : (i : ℕ) → i < length es → span_made spans i ≢ 0 → Stands d table pixels es store spans i

-- spans for every piece of a job, none of which is made
pub record NoneMade (spans : List (List ℕ)) : Type 0 where
  pub long : length spans ≡ piece_bound
  pub none : (i : ℕ) → i < piece_bound → span_made spans i ≡ 0
