-- What a number, a sheet and an entry in range give: each test is a list of tests, taken apart. Assumes nothing.
use Rattle.list_laws.proofs.Kit.{◌≡◌, Bool, ◌&&◌, true, List, ◌%◌, ◌*◌, ◌≤◌, ℕ, mul-le-mul, eqb, leb, leb-true}
use Rattle.model.specs.Lent.{row_bound, column_bound, piece_bound, gap_bound, area_bound, turns_bound, side_bound, up_to, numbers_in_range, sheet_in_range}
use Rattle.model.specs.Lent.{sides_in_range, lock_bound, entry_columns, entry_rows, entry_turns, entry_lock, entry_in_range}
use Rattle.model.specs.declared.JobSize.{JobSize}
use Rattle.list_laws.proofs.Tests.{and_left, and_right}

-- a number in range is at least 1
pub at_least : (bound k : ℕ) → up_to bound k ≡ true → 1 ≤ k
at_least bound k e = leb-true 1 k (and_left (leb 1 k) (leb k bound) e)

-- and at most the bound
pub up_to_lem : (bound k : ℕ) → up_to bound k ≡ true → k ≤ bound
up_to_lem bound k e = leb-true k bound (and_right (leb 1 k) (leb k bound) e)

-- what W, L, n and g in range give
pub record NumberFacts (size : JobSize) : Type 0 where
  -- W passes its test
  pub rows : up_to row_bound size.rows ≡ true
  -- L passes its test
  pub columns : up_to column_bound size.columns ≡ true
  -- n passes its test
  pub pieces : up_to piece_bound size.count ≡ true
  -- g is at most 8
  pub gap : size.gap ≤ gap_bound

-- they do
pub number_facts : (size : JobSize) → numbers_in_range size ≡ true → NumberFacts size
number_facts size e =
    let a : Bool = up_to row_bound size.rows in
    let b : Bool = up_to column_bound size.columns in
    let c : Bool = up_to piece_bound size.count in
    let d : Bool = leb size.gap gap_bound in
    let abc : (a && b && c) ≡ true = and_left (a && b && c) d e in
    let ab : (a && b) ≡ true = and_left (a && b) c abc in
    record {
      rows = and_left a b ab;
      columns = and_right a b ab;
      pieces = and_right (a && b) c abc;
      gap = leb-true size.gap gap_bound (and_right (a && b && c) d e);
    }

-- what a sheet in range gives
pub record SheetFacts (size : JobSize) : Type 0 where
  -- its numbers are in range
  pub numbers : NumberFacts size
  -- it has at most 65,536 pixels
  pub area : size.rows * size.columns ≤ area_bound

-- it does
pub sheet_facts : (size : JobSize) → sheet_in_range size ≡ true → SheetFacts size
unfolding sheet_in_range
sheet_facts size e =
    let d : Bool = leb (size.rows * size.columns) area_bound in
    record {
      numbers = number_facts size (and_left (numbers_in_range size) d e);
      area = leb-true (size.rows * size.columns) area_bound (and_right (numbers_in_range size) d e);
    }

-- the pieces of a sheet in range are at most 64
pub sheet_few : (size : JobSize) → sheet_in_range size ≡ true → size.count ≤ piece_bound
sheet_few size e = up_to_lem piece_bound size.count (sheet_facts size e).numbers.pieces

-- what l, w and o in range give
pub record SideFacts (l w o : ℕ) : Type 0 where
  -- l passes its test
  pub columns : up_to side_bound l ≡ true
  -- w passes its test
  pub rows : up_to side_bound w ≡ true
  -- o is odd
  pub odd : eqb (o % 2) 1 ≡ true
  -- o is at most 15
  pub few : o ≤ turns_bound

-- they do
pub side_facts : (l w o : ℕ) → sides_in_range l w o ≡ true → SideFacts l w o
side_facts l w o e =
    let a : Bool = up_to side_bound l in
    let b : Bool = up_to side_bound w in
    let c : Bool = eqb (o % 2) 1 in
    let d : Bool = leb o turns_bound in
    let abc : (a && b && c) ≡ true = and_left (a && b && c) d e in
    let ab : (a && b) ≡ true = and_left (a && b) c abc in
    record {
      columns = and_left a b ab;
      rows = and_right a b ab;
      odd = and_right (a && b) c abc;
      few = leb-true o turns_bound (and_right (a && b && c) d e);
    }

-- the area of a box with sides in range
pub area_of : (l w o : ℕ) → sides_in_range l w o ≡ true → l * w ≤ side_bound * side_bound
area_of l w o e = let s = side_facts l w o e in mul-le-mul (up_to_lem side_bound l s.columns) (up_to_lem side_bound w s.rows)

-- the sum of turns in range
pub few_turns : (l w o : ℕ) → sides_in_range l w o ≡ true → o ≤ turns_bound
few_turns l w o e = (side_facts l w o e).few

-- the test of an entry's sides and turns
abbrev sides_of : List (List ℕ) → ℕ → Bool
sides_of table i = sides_in_range (entry_columns table i) (entry_rows table i) (entry_turns table i)

-- what an entry in range gives
pub entry_facts : (table : List (List ℕ)) (i : ℕ) → entry_in_range table i ≡ true
    → SideFacts (entry_columns table i) (entry_rows table i) (entry_turns table i)
unfolding entry_in_range
entry_facts table i e =
    side_facts (entry_columns table i) (entry_rows table i) (entry_turns table i) (and_left (sides_of table i) (leb (entry_lock table i) lock_bound) e)

-- and its lock is 0 or 1
pub entry_lock_lem : (table : List (List ℕ)) (i : ℕ) → entry_in_range table i ≡ true → entry_lock table i ≤ lock_bound
unfolding entry_in_range
entry_lock_lem table i e = leb-true (entry_lock table i) lock_bound (and_right (sides_of table i) (leb (entry_lock table i) lock_bound) e)
