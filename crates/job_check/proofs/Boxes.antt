-- Lines of a box as evenly spaced bytes, and the parts of the check of a table. Assumes nothing.
use Rattle.list_laws.proofs.Kit.{◌≡◌, ap, Bool, ◌&&◌, true, List, ◌*◌, ◌+◌, ◌-◌, ◌<◌, ◌≤◌, ℕ, mul-le-mul, arith, eqb, leb, get_or, length, leb-true}
use Rattle.model.specs.Bounded.{all_below}
use Rattle.model.specs.Piece.{holds, side_bound}
use Rattle.model.specs.Lent.{area_bound, piece_bound, lock_bound, entry_columns, entry_rows, entry_turns, entry_lock, pixel_start, sheet_in_range, entry_in_range}
use Rattle.model.specs.Lent.{entry_fits, sides_in_range}
use Rattle.model.specs.declared.JobSize.{JobSize}
use Rattle.model.specs.declared.Direction.TheVariants.{Horizontal, Vertical}
use Rattle.list_laws.proofs.Bounded.{any_agree, all_at}
use Rattle.list_laws.proofs.Tests.{and_left, and_right}
use Rattle.job_check.specs.Boxes.{box_in, some_mark, table_well, Side}
use Rattle.job_laws.proofs.Ranges.{at_least, up_to_lem, side_facts, sheet_few}

module _ (mark : ℕ) (bytes : List ℕ) (start stride l w : ℕ) where
  -- a row of a box
  pub row_marks : (y first : ℕ) → first ≡ start + y * stride → some_mark mark bytes first 1 l ≡ holds Horizontal (box_in mark bytes start stride l w) y
  row_marks y first e =
      any_agree l (λ k. eqb (get_or bytes (first + k * 1) 0) mark) (λ x. eqb (get_or bytes (start + (y * stride + x)) 0) mark)
      (λ k _. ap (λ (i : ℕ). eqb (get_or bytes i 0) mark) (omega arith))

  -- a column of a box
  pub column_marks : (x first : ℕ) → first ≡ start + x → some_mark mark bytes first stride w ≡ holds Vertical (box_in mark bytes start stride l w) x
  column_marks x first e =
      any_agree w (λ k. eqb (get_or bytes (first + k * stride) 0) mark) (λ y. eqb (get_or bytes (start + (y * stride + x)) 0) mark)
      (λ k _. ap (λ (i : ℕ). eqb (get_or bytes i 0) mark) (omega arith))

-- sides in range
pub sides_of_lem : (l w o : ℕ) → sides_in_range l w o ≡ true → Side l × Side w
sides_of_lem l w o e =
    let s = side_facts l w o e in (
      record { low = at_least side_bound l s.columns; high = up_to_lem side_bound l s.columns },
      record { low = at_least side_bound w s.rows; high = up_to_lem side_bound w s.rows },
    )

-- the sides of an entry in range
pub sides : (table : List (List ℕ)) (i : ℕ) → entry_in_range table i ≡ true → Side (entry_columns table i) × Side (entry_rows table i)
unfolding entry_in_range
sides table i e =
    sides_of_lem (entry_columns table i) (entry_rows table i) (entry_turns table i)
    (and_left (sides_in_range (entry_columns table i) (entry_rows table i) (entry_turns table i)) (leb (entry_lock table i) lock_bound) e)

-- what the check of a table says of its entries
pub record TableFacts (size : JobSize) (table : List (List ℕ)) : Type 0 where
  pub few : size.count ≤ piece_bound
  pub entries : size.count ≤ length table
  pub ranges : (i : ℕ) → i < size.count → entry_in_range table i ≡ true
  pub areas : pixel_start table size.count ≤ area_bound

pub table_facts : (size : JobSize) (table : List (List ℕ)) → table_well size table ≡ true → TableFacts size table
table_facts size table e =
    let a : Bool = sheet_in_range size in
    let b : Bool = leb size.count (length table) in
    let c : Bool = all_below size.count (entry_in_range table) in
    let d : Bool = all_below size.count (entry_fits size table) in
    let f : Bool = leb (pixel_start table size.count) area_bound in
    let ed : (a && b && c && d) ≡ true = and_left (a && b && c && d) f e in
    let ec : (a && b && c) ≡ true = and_left (a && b && c) d ed in
    let eb : (a && b) ≡ true = and_left (a && b) c ec in
    record {
      few = sheet_few size (and_left a b eb);
      entries = leb-true size.count (length table) (and_right a b eb);
      ranges = all_at size.count (entry_in_range table) (and_right (a && b) c ec);
      areas = leb-true (pixel_start table size.count) area_bound (and_right (a && b && c && d) f e);
    }

-- the last row of a box begins at most 254 strides on
pub last_row : (rows stride : ℕ) → rows ≤ 255 → stride ≤ 512 → (rows - 1) * stride ≤ 254 * 512
last_row rows stride r s = let h : rows - 1 ≤ 254 = omega arith in mul-le-mul h s
