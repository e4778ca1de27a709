-- A piece that passed its checks: its places are on the sheet, and moving its rows is what the sheet's definition says of the piece.
-- Assumes nothing.
use Rattle.list_laws.proofs.Kit.{◌∙◌, ◌≡◌, ap, List, [], ◌*◌, ◌+◌, ◌<◌, ◌≤◌, suc, ℕ, add-mul, mul-le-mul_right, suc-mul, arith, leb, length, leb-true}
use Rattle.model.specs.Piece.{corner}
use Rattle.model.specs.Layout.{turned_piece, inside}
use Rattle.model.specs.Lent.{Lent, job_of, pixel_start}
use Rattle.model.specs.Cover.{covers_pixel}
use Rattle.model.specs.declared.Turn.{Turn}
use Rattle.model.specs.declared.Placement.{Placement}
use Rattle.list_laws.proofs.Tests.{and_left, and_right}
use Rattle.job_laws.proofs.Checked.{Facts, facts}
use Rattle.piece_pixels.specs.Turned.{sides_of, made_of, shown_by}
use Rattle.piece_pixels.specs.declared.Sides.{Sides}
use Rattle.piece_pixels.specs.declared.TurnedPiece.{TurnedPiece}
use Rattle.piece_pixels.proofs.Cells.{shown_sides}
use Rattle.sheet_counts.specs.declared.Change.{Change}
use Rattle.sheet_counts.specs.Stamp.{moved_by, StampRoom, on_at, moved_rows}
use Rattle.sheet_counts.specs.Ready.{StampReady}
use Rattle.sheet_counts.proofs.Rows.{stamped}

-- ── the piece's turned box ──

-- piece i's box in a turn
abbrev pub turned_piece_at : Lent → ℕ → Turn → TurnedPiece
turned_piece_at l i t = made_of l.table i (pixel_start l.table i) t

-- its sides are those of the turned piece
box_sides : (l : Lent) (i : ℕ) (t : Turn) → sides_of (shown_by [] (turned_piece_at l i t)) ≡ sides_of (turned_piece (job_of l) i t)
unfolding job_of
box_sides l i t = shown_sides l.pixels (turned_piece_at l i t)

-- ── the piece on the sheet ──

module _ (l : Lent) (i : ℕ) (p : Placement) (room : ℕ) (ready : StampReady l i p room) where
  abbrev known : Facts l
  known = facts l ready.well

  -- the table has the piece's entry
  pub entry_there : i < length l.table
  entry_there = let few = known.entries in let here = ready.piece in omega arith

  -- piece numbers are below 64
  pub piece_few : i < 64
  piece_few = let few = known.few_pieces in let here = ready.piece in omega arith

  -- the turned box lies in the sheet
  within_columns : p.x.0 + (turned_piece (job_of l) i p.turn).columns ≤ l.size.columns
  unfolding inside job_of
  within_columns =
      leb-true (p.x.0 + (turned_piece (job_of l) i p.turn).columns) l.size.columns
      (and_left (leb (p.x.0 + (turned_piece (job_of l) i p.turn).columns) l.size.columns) _ ready.within)

  within_rows : p.y.0 + (turned_piece (job_of l) i p.turn).rows ≤ l.size.rows
  unfolding inside job_of
  within_rows =
      leb-true (p.y.0 + (turned_piece (job_of l) i p.turn).rows) l.size.rows
      (and_right (leb (p.x.0 + (turned_piece (job_of l) i p.turn).columns) l.size.columns) _ ready.within)

  -- the counts have room for its rows
  pub rows_room : (turned_piece (job_of l) i p.turn).rows ≤ 255
      → StampRoom (turned_piece_at l i p.turn) (p.y.0 * l.size.columns + p.x.0) l.size.columns (turned_piece (job_of l) i p.turn).columns
      (turned_piece (job_of l) i p.turn).rows room
  rows_room small =
      record {
        places = λ x y h₁ h₂.
            let sides = box_sides l i p.turn in
            let columns = ap (λ (s : Sides). s.columns) sides in
            let rows = ap (λ (s : Sides). s.rows) sides in
            (omega arith, omega arith);
        sheets = known.few_columns;
        tall = omega arith;
        rows = λ d h.
            let high : suc (p.y.0 + d) * l.size.columns ≤ l.size.rows * l.size.columns =
            mul-le-mul_right l.size.columns (let wide = within_rows in omega arith) in
            let split : suc (p.y.0 + d) * l.size.columns ≡ (p.y.0 + d) * l.size.columns + l.size.columns = suc-mul (p.y.0 + d) l.size.columns in
            let parts : (p.y.0 + d) * l.size.columns ≡ p.y.0 * l.size.columns + d * l.size.columns = add-mul p.y.0 d l.size.columns in
            let long = within_columns in
            let full = ready.full in
            omega arith;
      }

  -- moving its rows is what the sheet's definition says of the piece
  pub piece_moved : (change : Change) (cs : List ℕ) → length cs ≡ room
      → moved_rows change (on_at l.pixels (turned_piece_at l i p.turn)) l.size.columns (turned_piece (job_of l) i p.turn).columns cs
      (p.y.0 * l.size.columns + p.x.0) 0 (turned_piece (job_of l) i p.turn).rows
      ≡ moved_by change (job_of l) i p cs
  unfolding covers_pixel job_of
  piece_moved change cs same =
      stamped (job_of l) (turned_piece (job_of l) i p.turn) (corner p) within_columns within_rows change cs (same ∙ ready.full)
