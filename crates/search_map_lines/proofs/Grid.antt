-- The bits of a map by column and row: a cell, the clear column at the end of each row, and the clear rows before and after the cells.
-- Assumes nothing.
use Rattle.list_laws.proofs.Kit.{◌∙◌, ◌≡◌, ap, sym, false, true, List, ◌*◌, ◌+◌, ◌<◌, ◌≤◌, suc, zero, ℕ, arith, length}
use Rattle.list_laws.proofs.Kit.{mul-le-mul_right}
use Rattle.list_laws.proofs.Tests.{fails, same_tests}
use Rattle.model.specs.Piece.{Shape}
use Rattle.model.specs.declared.Direction.{Direction}
use Rattle.bit_laws.specs.Bit.{bit_in, length_limit}
use Rattle.search_maps.specs.Map.{sides_of, columns_of, rows_of, row_width, cell_place, shared_at, SidesFit, MapOf}
use Rattle.search_maps.proofs.Shared.{cell_in, two_digits, meets_in, shared_meets}
use Rattle.search_map_lines.specs.Line.{Bordered}

module _ (d : Direction) (s t : Shape) (ws : List ℕ) (m : MapOf d s t ws) (f : SidesFit (sides_of d s t)) where
  -- outside of the cells nothing is shared
  pub shared_in : (X Y : ℕ) → shared_at d s t X Y ≡ true → (X < columns_of (sides_of d s t)) × (Y < rows_of (sides_of d s t))
  shared_in X Y e = meets_in d s t X Y (shared_meets d s t X Y e)

  -- a bit of a row tells whether a pixel is shared there, also past the cells
  pub bit_shared : (X Y : ℕ) → X < row_width (sides_of d s t) → Y ≤ rows_of (sides_of d s t) → bit_in ws (cell_place (sides_of d s t) X Y) ≡ shared_at d s t X Y
  bit_shared X Y l k =
      same_tests _ _
      (λ e.
      let c = m.only (cell_place (sides_of d s t) X Y) (cell_in (sides_of d s t) X Y l (omega (arith, f.moved_across.low))) e in
      let x = c.column in
      let y = c.row in
      let q = two_digits (row_width (sides_of d s t)) (Y + 1) X (c.Y + 1) c.X l (omega arith) c.place in
      sym (m.cells X Y (omega (arith, q.1)) (omega (arith, q.0))) ∙ e)
      (λ e. let i = shared_in X Y e in m.cells X Y i.0 i.1 ∙ e)

  -- the bits before the first row of cells are clear
  pub floor_clear : (x : ℕ) → x < row_width (sides_of d s t) → bit_in ws x ≡ false
  floor_clear x l =
      fails (bit_in ws x)
      (λ e.
      let c = m.only x (let h = cell_in (sides_of d s t) x 0 l (omega (arith, f.moved_across.low)) in omega arith) e in
      let p = c.place in
      let h : 1 * row_width (sides_of d s t) ≤ (c.Y + 1) * row_width (sides_of d s t) = mul-le-mul_right (row_width (sides_of d s t)) (omega arith) in
      omega arith)

  -- so are those after the last one
  pub top_clear : (x : ℕ) → x < row_width (sides_of d s t) → bit_in ws ((rows_of (sides_of d s t) + 1) * row_width (sides_of d s t) + x) ≡ false
  top_clear x l =
      bit_shared x (rows_of (sides_of d s t)) l (omega arith) ∙ fails _ (λ e. let i = shared_in x (rows_of (sides_of d s t)) e in omega arith)

  -- and the bit after each row of cells, and before the first
  pub gap_clear : (y : ℕ) → y ≤ rows_of (sides_of d s t) → bit_in ws (y * row_width (sides_of d s t) + columns_of (sides_of d s t)) ≡ false
  gap_clear zero l =
      let e : 0 * row_width (sides_of d s t) + columns_of (sides_of d s t) ≡ columns_of (sides_of d s t) = omega arith in
      ap (bit_in ws) e ∙ floor_clear (columns_of (sides_of d s t)) (omega (arith, f.moved_along.low))
  gap_clear (suc y) l =
      let e : suc y * row_width (sides_of d s t) + columns_of (sides_of d s t) ≡ cell_place (sides_of d s t) (columns_of (sides_of d s t)) y = omega arith in
      ap (bit_in ws) e
      ∙ bit_shared (columns_of (sides_of d s t)) y (omega (arith, f.moved_along.low)) (omega arith)
      ∙ fails _ (λ h. let i = shared_in (columns_of (sides_of d s t)) y h in omega arith)

  -- the map has a border
  pub map_bordered : length ws < length_limit → Bordered (sides_of d s t) ws
  map_bordered l = record { room = m.room; short = l; floor = floor_clear; top = top_clear; ends = gap_clear }
