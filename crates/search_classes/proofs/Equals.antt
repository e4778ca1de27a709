-- Equal pieces are equal in every turn; pieces of one box are equal where their bytes are. Assumes nothing.
use Rattle.list_laws.proofs.Kit.{◌∙◌, ◌≡◌, ap, refl, ◌*◌, ◌+◌, ◌-◌, ◌<◌, ◌≤◌, ℕ, arith, eqb, get_or, length, mul_comm, true}
use Rattle.list_laws.proofs.Numbers.{in_rows_lem}
use Rattle.model.specs.Piece.{Shape, turned}
use Rattle.model.specs.Lent.{Lent, job_of, lent_shape, lent_well, entry_columns, entry_rows, entry_area, pixel_start, piece_bound, area_bound}
use Rattle.model.specs.declared.Direction.TheVariants.{Horizontal}
use Rattle.model.specs.declared.Turn.{Turn}
use Rattle.model.specs.declared.Turn.TheVariants.{Zero, Quarter, Half, ThreeQuarters}
use Rattle.job_laws.proofs.Checked.{facts}
use Rattle.strip_laws.specs.Boxes.{SameShape}
use Rattle.strip_laws.proofs.Boxes.{same_cell}
use Rattle.search_maps.proofs.Turning.{same_in_box}
use Rattle.search_classes.specs.Classes.{Equal}

module _ (s u : Shape) (h : SameShape s u) where
  -- the same pixel of both, at places that are counted from a side
  cell_same : (x y x' y' : ℕ) → x < s.columns → y < s.rows → x ≡ x' → y ≡ y' → s.has x y ≡ u.has x' y'
  cell_same x y x' y' l m e f = same_cell Horizontal s u h x y l m ∙ ap (λ (a : ℕ). u.has a y) e ∙ ap (u.has x') f

  -- shapes alike are alike in a turn
  pub turned_same : (t : Turn) → SameShape (turned t s) (turned t u)
  turned_same Zero = h
  turned_same Quarter =
      let c = h.columns in
      let r = h.rows in
      same_in_box (turned Quarter s) (turned Quarter u) r c (λ x y l m. cell_same y (s.rows - 1 - x) y (u.rows - 1 - x) m (omega arith) refl (omega arith))
  turned_same Half =
      let c = h.columns in
      let r = h.rows in
      same_in_box (turned Half s) (turned Half u) c r
      (λ x y l m.
      cell_same (s.columns - 1 - x) (s.rows - 1 - y) (u.columns - 1 - x) (u.rows - 1 - y) (omega arith) (omega arith) (omega arith) (omega arith))
  turned_same ThreeQuarters =
      let c = h.columns in
      let r = h.rows in
      same_in_box (turned ThreeQuarters s) (turned ThreeQuarters u) r c
      (λ x y l m. cell_same (s.columns - 1 - y) x (u.columns - 1 - y) x (omega arith) l (omega arith) refl)

-- pieces of one box and the same bytes
pub bytes_equal : (l : Lent) (i k : ℕ) → entry_columns l.table i ≡ entry_columns l.table k → entry_rows l.table i ≡ entry_rows l.table k
    → ((m : ℕ) → m < entry_area l.table i → get_or l.pixels (pixel_start l.table i + m) 0 ≡ get_or l.pixels (pixel_start l.table k + m) 0)
    → Equal (job_of l) i k
unfolding job_of
bytes_equal l i k c r bytes =
    let L : ℕ = entry_columns l.table i in
    let W : ℕ = entry_rows l.table i in
    same_in_box (lent_shape l i) (lent_shape l k) c r
    (λ x y a b.
    let h : y * L + x < W * L = in_rows_lem a b in
    let e : W * L ≡ L * W = mul_comm W L in
    ap (λ (v : ℕ). eqb v 1) (bytes (y * L + x) (omega arith))
    ∙ ap (λ (n : ℕ). eqb (get_or l.pixels (pixel_start l.table k + (y * n + x)) 0) 1) c)

-- piece i has an entry, and its pixels are in the store
pub record Stored (l : Lent) (i : ℕ) : Type 0 where
  pub entry : i < length l.table
  pub few : i ≤ piece_bound
  pub within : pixel_start l.table i + entry_area l.table i ≤ length l.pixels
  pub small : pixel_start l.table i + entry_area l.table i ≤ area_bound

-- so it is with each piece of a job that passes its check
pub stored : (l : Lent) (i : ℕ) → lent_well l ≡ true → i < l.size.count → Stored l i
stored l i well h =
    let f = facts l well in
    let n = f.entries in
    let m = f.few_pieces in
    let e = f.ends i h in
    let s = f.store in
    let a = f.areas in
    record { entry = omega arith; few = omega arith; within = omega arith; small = omega arith }
