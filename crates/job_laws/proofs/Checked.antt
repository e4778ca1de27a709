-- Document 01, 'When a call says no', number 8: what a lent job that passes its check gives. The check is a list of tests; each is taken
-- apart, and the parts make the check again. Assumes nothing.
use Rattle.list_laws.proofs.Kit.{◌≡◌, refl, Bool, ◌&&◌, true, ◌%◌, ◌*◌, ◌+◌, ◌-◌, ◌<◌, ◌≤◌, ℕ, arith, eqb, leb, get_or, length, le-leb, leb-true}
use Rattle.model.specs.Bounded.{all_below}
use Rattle.model.specs.Piece.{tight, extent}
use Rattle.model.specs.Overlap.{offset_bound}
use Rattle.model.specs.Layout.{turned_piece}
use Rattle.model.specs.Lent.{Lent, row_bound, column_bound, piece_bound, gap_bound, area_bound, turns_bound, side_bound, up_to, entry_columns, entry_rows}
use Rattle.model.specs.Lent.{lock_bound, entry_turns, entry_lock, entry_area, pixel_start, entry_in_range, entry_fits, lent_shape, job_of, sheet_in_range, lent_well}
use Rattle.model.specs.declared.Direction.{Direction}
use Rattle.model.specs.declared.Turn.{Turn}
use Rattle.job_laws.specs.Entries.{EntryAt}
use Rattle.list_laws.proofs.Bounded.{all_at, all_from}
use Rattle.list_laws.proofs.Tests.{and_left, and_right, and_both}
use Rattle.job_laws.proofs.Ranges.{at_least, up_to_lem, NumberFacts, SheetFacts, sheet_facts, SideFacts, entry_facts, entry_lock_lem}
use Rattle.job_laws.proofs.Starts.{start_end}
use Rattle.job_laws.proofs.Turned.{turned_side_lem}

-- ── the check, part by part ──

-- the tests that make the check
pub record Parts (l : Lent) : Type 0 where
  -- W, L, n, g and W × L are in range
  pub sheet : sheet_in_range l.size ≡ true
  -- the table has n entries
  pub entries : l.size.count ≤ length l.table
  -- each entry's numbers are in range
  pub ranges : (i : ℕ) → i < l.size.count → entry_in_range l.table i ≡ true
  -- each box fits the sheet
  pub fits : (i : ℕ) → i < l.size.count → entry_fits l.size l.table i ≡ true
  -- the boxes have at most 65,536 pixels together
  pub areas : pixel_start l.table l.size.count ≤ area_bound
  -- the store has a byte for each of them
  pub store : pixel_start l.table l.size.count ≤ length l.pixels
  -- each of these bytes is 0 or 1
  pub bits : (k : ℕ) → k < pixel_start l.table l.size.count → get_or l.pixels k 0 ≤ 1
  -- no box is loose
  pub tight_boxes : (i : ℕ) → i < l.size.count → tight (lent_shape l i) ≡ true

-- the check gives its parts
parts : (l : Lent) → lent_well l ≡ true → Parts l
unfolding lent_well
parts l e =
    let n : ℕ = l.size.count in
    let total : ℕ = pixel_start l.table n in
    let a : Bool = sheet_in_range l.size in
    let b : Bool = leb n (length l.table) in
    let c : Bool = all_below n (entry_in_range l.table) in
    let d : Bool = all_below n (entry_fits l.size l.table) in
    let f : Bool = leb total area_bound in
    let g : Bool = leb total (length l.pixels) in
    let h : Bool = all_below total (λ k. leb (get_or l.pixels k 0) 1) in
    let t : Bool = all_below n (λ i. tight (lent_shape l i)) in
    let eh : (a && b && c && d && f && g && h) ≡ true = and_left (a && b && c && d && f && g && h) t e in
    let eg : (a && b && c && d && f && g) ≡ true = and_left (a && b && c && d && f && g) h eh in
    let ef : (a && b && c && d && f) ≡ true = and_left (a && b && c && d && f) g eg in
    let ed : (a && b && c && d) ≡ true = and_left (a && b && c && d) f ef in
    let ec : (a && b && c) ≡ true = and_left (a && b && c) d ed in
    record {
      sheet = and_left a b (and_left (a && b) c ec);
      entries = leb-true n (length l.table) (and_right a b (and_left (a && b) c ec));
      ranges = all_at n (entry_in_range l.table) (and_right (a && b) c ec);
      fits = all_at n (entry_fits l.size l.table) (and_right (a && b && c) d ed);
      areas = leb-true total area_bound (and_right (a && b && c && d) f ef);
      store = leb-true total (length l.pixels) (and_right (a && b && c && d && f) g eg);
      bits = λ k m.
          leb-true (get_or l.pixels k 0) 1
          (all_at total (λ k. leb (get_or l.pixels k 0) 1) (and_right (a && b && c && d && f && g) h eh) k m);
      tight_boxes = all_at n (λ i. tight (lent_shape l i)) (and_right (a && b && c && d && f && g && h) t e);
    }

-- the parts make the check
pub well : (l : Lent) → Parts l → lent_well l ≡ true
unfolding lent_well
well l f =
    let n : ℕ = l.size.count in
    let total : ℕ = pixel_start l.table n in
    and_both
    (and_both
    (and_both
    (and_both
    (and_both
    (and_both
    (and_both f.sheet (le-leb n (length l.table) f.entries))
    (all_from n (entry_in_range l.table) f.ranges))
    (all_from n (entry_fits l.size l.table) f.fits))
    (le-leb total area_bound f.areas))
    (le-leb total (length l.pixels) f.store))
    (all_from total (λ k. leb (get_or l.pixels k 0) 1) (λ k m. le-leb (get_or l.pixels k 0) 1 (f.bits k m))))
    (all_from n (λ i. tight (lent_shape l i)) f.tight_boxes)

-- ── what the check gives ──

-- what a job that passes its check gives
pub record Facts (l : Lent) : Type 0 where
  -- W, L, n, g and W × L pass the sheet's test
  pub sheet : sheet_in_range l.size ≡ true
  -- the sheet has a row
  pub some_rows : 1 ≤ l.size.rows
  -- and at most 512
  pub few_rows : l.size.rows ≤ row_bound
  -- the sheet has a column
  pub some_columns : 1 ≤ l.size.columns
  -- and at most 4,096
  pub few_columns : l.size.columns ≤ column_bound
  -- there is a piece
  pub some_pieces : 0 < l.size.count
  -- and at most 64
  pub few_pieces : l.size.count ≤ piece_bound
  -- the gap is at most 8
  pub small_gap : l.size.gap ≤ gap_bound
  -- the sheet has at most 65,536 pixels
  pub area : l.size.rows * l.size.columns ≤ area_bound
  -- the table has n entries
  pub entries : l.size.count ≤ length l.table
  -- each entry passes its test
  pub ranges : (i : ℕ) → i < l.size.count → entry_in_range l.table i ≡ true
  -- each box has a column
  pub columns_some : (i : ℕ) → i < l.size.count → 1 ≤ entry_columns l.table i
  -- and at most 255
  pub columns_small : (i : ℕ) → i < l.size.count → entry_columns l.table i ≤ side_bound
  -- each box has a row
  pub rows_some : (i : ℕ) → i < l.size.count → 1 ≤ entry_rows l.table i
  -- and at most 255
  pub rows_small : (i : ℕ) → i < l.size.count → entry_rows l.table i ≤ side_bound
  -- each sum of turns is odd
  pub turns_odd : (i : ℕ) → i < l.size.count → eqb (entry_turns l.table i % 2) 1 ≡ true
  -- and at most 15
  pub turns_few : (i : ℕ) → i < l.size.count → entry_turns l.table i ≤ turns_bound
  -- each lock is 0 or 1
  pub lock_small : (i : ℕ) → i < l.size.count → entry_lock l.table i ≤ lock_bound
  -- each box passes the test of the sheet
  pub fits : (i : ℕ) → i < l.size.count → entry_fits l.size l.table i ≡ true
  -- no box is longer than the sheet
  pub columns_fit : (i : ℕ) → i < l.size.count → entry_columns l.table i ≤ l.size.columns
  -- or wider
  pub rows_fit : (i : ℕ) → i < l.size.count → entry_rows l.table i ≤ l.size.rows
  -- each side of a box is in range in every turn
  pub turned_in_range : (d : Direction) (i : ℕ) (t : Turn) → i < l.size.count → up_to side_bound (extent d (turned_piece (job_of l) i t)) ≡ true
  -- and so at most 255
  pub turned_small : (d : Direction) (i : ℕ) (t : Turn) → i < l.size.count → extent d (turned_piece (job_of l) i t) ≤ side_bound
  -- two pixels of two boxes, each counted from its box's edge, are at most 254 apart, and with the gap at most 262
  pub offsets : (d : Direction) (i k : ℕ) (t u : Turn) → i < l.size.count → k < l.size.count → (p q : ℕ) → p < extent d (turned_piece (job_of l) i t)
      → q < extent d (turned_piece (job_of l) k u) → (p - q + l.size.gap ≤ offset_bound) × (q - p + l.size.gap ≤ offset_bound)
  -- the boxes have at most 65,536 pixels together
  pub areas : pixel_start l.table l.size.count ≤ area_bound
  -- a piece's pixels end no later than those of all pieces
  pub ends : (i : ℕ) → i < l.size.count → pixel_start l.table i + entry_area l.table i ≤ pixel_start l.table l.size.count
  -- the store has a byte for each pixel
  pub store : pixel_start l.table l.size.count ≤ length l.pixels
  -- each of these bytes is 0 or 1
  pub bits : (k : ℕ) → k < pixel_start l.table l.size.count → get_or l.pixels k 0 ≤ 1
  -- no box is loose
  pub tight_boxes : (i : ℕ) → i < l.size.count → tight (lent_shape l i) ≡ true

-- the sides of the boxes, in every turn
turned_range : (l : Lent) → Parts l → (d : Direction) (i : ℕ) (t : Turn) → i < l.size.count → up_to side_bound (extent d (turned_piece (job_of l) i t)) ≡ true
unfolding job_of
turned_range l f d i t b =
    let s : SideFacts _ _ _ = entry_facts l.table i (f.ranges i b) in
    turned_side_lem (λ n. up_to side_bound n ≡ true) d t (lent_shape l i) s.columns s.rows

-- the check gives it all
pub facts : (l : Lent) → lent_well l ≡ true → Facts l
unfolding entry_fits
facts l e =
    let f : Parts l = parts l e in
    let s : SheetFacts l.size = sheet_facts l.size f.sheet in
    let n : NumberFacts l.size = s.numbers in
    record {
      sheet = f.sheet;
      some_rows = at_least row_bound l.size.rows n.rows;
      few_rows = up_to_lem row_bound l.size.rows n.rows;
      some_columns = at_least column_bound l.size.columns n.columns;
      few_columns = up_to_lem column_bound l.size.columns n.columns;
      some_pieces = at_least piece_bound l.size.count n.pieces;
      few_pieces = up_to_lem piece_bound l.size.count n.pieces;
      small_gap = n.gap;
      area = s.area;
      entries = f.entries;
      ranges = f.ranges;
      columns_some = λ i b. at_least side_bound (entry_columns l.table i) (side i b).columns;
      columns_small = λ i b. up_to_lem side_bound (entry_columns l.table i) (side i b).columns;
      rows_some = λ i b. at_least side_bound (entry_rows l.table i) (side i b).rows;
      rows_small = λ i b. up_to_lem side_bound (entry_rows l.table i) (side i b).rows;
      turns_odd = λ i b. (side i b).odd;
      turns_few = λ i b. (side i b).few;
      lock_small = λ i b. entry_lock_lem l.table i (f.ranges i b);
      fits = f.fits;
      columns_fit = λ i b. leb-true _ _ (and_left (leb (entry_columns l.table i) l.size.columns) _ (f.fits i b));
      rows_fit = λ i b. leb-true _ _ (and_right (leb (entry_columns l.table i) l.size.columns) _ (f.fits i b));
      turned_in_range = turned_range l f;
      turned_small = small;
      offsets = λ d i k t u a b p q x y. let g = n.gap in (let h = small d i t a in omega arith, let h = small d k u b in omega arith);
      areas = f.areas;
      ends = λ i b. start_end l.table i l.size.count b;
      store = f.store;
      bits = f.bits;
      tight_boxes = f.tight_boxes;
    }
  where
    side : (i : ℕ) → i < l.size.count → SideFacts (entry_columns l.table i) (entry_rows l.table i) (entry_turns l.table i)
    side i b = entry_facts l.table i ((parts l e).ranges i b)

    small : (d : Direction) (i : ℕ) (t : Turn) → i < l.size.count → extent d (turned_piece (job_of l) i t) ≤ side_bound
    small d i t b = up_to_lem side_bound (extent d (turned_piece (job_of l) i t)) (turned_range l (parts l e) d i t b)

-- ── the job that is lent ──

module _ (l : Lent) (e : lent_well l ≡ true) where
  -- it has a piece
  pub lent_some : 0 < (job_of l).size.count
  unfolding job_of
  lent_some = (facts l e).some_pieces

  -- and at most 64
  pub lent_few : (job_of l).size.count ≤ piece_bound
  unfolding job_of
  lent_few = (facts l e).few_pieces

  -- its gap is at most 8
  pub lent_gap : (job_of l).size.gap ≤ gap_bound
  unfolding job_of
  lent_gap = (facts l e).small_gap

  -- each side of a box is in range in every turn
  pub lent_side_in_range : (d : Direction) (i : ℕ) (t : Turn) → i < (job_of l).size.count
      → up_to side_bound (extent d (turned_piece (job_of l) i t)) ≡ true
  unfolding job_of
  lent_side_in_range d i t b = (facts l e).turned_in_range d i t b

  -- and so at most 255
  pub lent_turned_small : (d : Direction) (i : ℕ) (t : Turn) → i < (job_of l).size.count → extent d (turned_piece (job_of l) i t) ≤ side_bound
  unfolding job_of
  lent_turned_small d i t b = (facts l e).turned_small d i t b

-- ── an entry, as the code reads it ──

-- an entry of a job that passes the check
pub entry_at : (l : Lent) (i : ℕ) → lent_well l ≡ true → i < l.size.count → EntryAt l.table i (pixel_start l.table i)
entry_at l i e h =
    let f : Facts l = facts l e in
    let n = f.entries in
    let a = f.ends i h in
    let b = f.areas in
    record { within = omega arith; columns = f.columns_small i h; rows = f.rows_small i h; begins = refl; small = omega arith }
