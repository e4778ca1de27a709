-- The box of a piece of a layout as a direction sees it, from its placement and its turned sides. Assumes nothing.
use Rattle.list_laws.proofs.Kit.{◌∙◌, ◌≡◌, ap, ℕ}
use Rattle.model.specs.Piece.{corner}
use Rattle.model.specs.Layout.{Job, Layout, turned_piece, place_of, shape_in, corner_in}
use Rattle.model.specs.declared.Direction.{Direction}
use Rattle.model.specs.declared.Direction.TheVariants.{Horizontal, Vertical}
use Rattle.model.specs.declared.Placement.{Placement}
use Rattle.piece_pixels.specs.Turned.{sides_of}
use Rattle.piece_pixels.specs.declared.Sides.{Sides}
use Rattle.pair_overlap.specs.Seen.{seen}
use Rattle.pair_overlap.specs.declared.Corner.{Corner}
use Rattle.pair_slide.specs.Boxes.{BoxOf}

module _ (j : Job) (v : Layout) (i : ℕ) (d : Direction) (p : Placement) (c : Corner) (s : Sides) (placed : p ≡ place_of v i)
    (seen_at : c ≡ seen d (corner p)) (sided : s ≡ sides_of (turned_piece j i p.turn))
  where
    -- the columns of the turned box
    columns : s.columns ≡ (shape_in j v i).columns
    columns = ap (λ (z : Sides). z.columns) sided ∙ ap (λ (q : Placement). (turned_piece j i q.turn).columns) placed

    -- and its rows
    rows : s.rows ≡ (shape_in j v i).rows
    rows = ap (λ (z : Sides). z.rows) sided ∙ ap (λ (q : Placement). (turned_piece j i q.turn).rows) placed

    -- its corner
    seen_corner : c ≡ seen d (corner_in v i)
    seen_corner = seen_at ∙ ap (λ (q : Placement). seen d (corner q)) placed

    -- along the rows
    pub box_rows_lem : d ≡ Horizontal → BoxOf d (shape_in j v i) (corner_in v i) (record { corner = c; length = s.columns; lines = s.rows })
    box_rows_lem e = record { corner = seen_corner; length = rw e columns; lines = rw e rows }

    -- along the columns
    pub box_columns_lem : d ≡ Vertical → BoxOf d (shape_in j v i) (corner_in v i) (record { corner = c; length = s.rows; lines = s.columns })
    box_columns_lem e = record { corner = seen_corner; length = rw e rows; lines = rw e columns }
