-- The store of shapes while it is filled: those with numbers below k stand in it, and nothing that is written later touches them.
-- Assumes nothing.
use Rattle.list_laws.proofs.Kit.{◌∙◌, ◌≡◌, subst, sym, true, ⊎_elim, List, map, ◌*◌, ◌+◌, ◌-◌, ◌/◌, ◌<◌, ◌≤◌, ℕ, eq-or-lt_of_le, arith, get_or, length}
use Rattle.list_laws.proofs.Kit.{length-map, length-set, set, get_or-set_other, get_or-set_same, length-sets}
use Rattle.model.specs.Piece.{Shape, extent, side_bound}
use Rattle.model.specs.Strip.{Strip, strips}
use Rattle.model.specs.Buffer.{strip_entry}
use Rattle.model.specs.Lent.{Lent, job_of, lent_well, piece_bound, entry_area}
use Rattle.model.specs.declared.Direction.{Direction}
use Rattle.list_laws.proofs.Stores.{part_before, part_stored}
use Rattle.job_laws.proofs.Checked.{facts, entry_at}
use Rattle.strip_scan.specs.Put.{Appended}
use Rattle.pair_overlap.proofs.Shapes.{entries_ordered}
use Rattle.search_shapes.specs.Shapes.{shape_number, numbered_shape, part, ShapeAt, Shapes, StripsOf, ShapesRoom}
use Rattle.search_shapes.proofs.Numbers.{turn_below, number_back, reached, reached_next, reached_few, shape_half, shape_small}

-- the shapes with numbers below k are stored, and the next one goes to `at`
pub record Made (d : Direction) (l : Lent) (store : List (List ℕ)) (starts : List ℕ) (k at : ℕ) : Type 0 where
  pub next : get_or starts k 0 ≡ at
  pub before : (m : ℕ) → m ≤ k → get_or starts m 0 ≤ at
  pub few : 2 * at ≤ reached l.table k + 255 * k
  pub shapes : (m : ℕ) → m < k → ShapeAt d (numbered_shape (job_of l) m) store starts m

-- there is room for shape k
pub record Fits (d : Direction) (l : Lent) (k at : ℕ) : Type 0 where
  pub piece : k / 4 < l.size.count
  pub few : l.size.count ≤ piece_bound
  pub entries : l.size.count ≤ length l.table
  pub half : 2 * length (strips d (numbered_shape (job_of l) k)) ≤ entry_area l.table (k / 4) + 255
  pub strips : at + length (strips d (numbered_shape (job_of l) k)) ≤ 163840
  pub small : extent d (numbered_shape (job_of l) k) ≤ side_bound

pub fits_next : (d : Direction) (l : Lent) (store : List (List ℕ)) (starts : List ℕ) (k at : ℕ) → lent_well l ≡ true → k < l.size.count * 4
    → Made d l store starts k at → Fits d l k at
fits_next d l store starts k at e h m =
    let p : k / 4 < l.size.count = omega arith in
    let f = facts l e in
    let g = entry_at l (k / 4) e p in
    let few = m.few in
    let areas = f.areas in
    let half = shape_half d l k g.columns g.rows in
    let most = f.few_pieces in
    record {
      piece = p;
      few = (facts l e).few_pieces;
      entries = f.entries;
      half = half;
      strips = omega (arith, reached_few l.table k l.size.count h);
      small = shape_small d l k g.columns g.rows;
    }

module _ (d : Direction) (l : Lent) (store after : List (List ℕ)) (starts : List ℕ) (k at next : ℕ) (m : Made d l store starts k at)
    (f : Fits d l k at) (r : ShapesRoom store starts) (a : Appended (strips d (numbered_shape (job_of l) k)) store at after next)
  where
    long : k + 1 < length starts
    long = let w = r.long in let b = f.piece in let c = f.few in omega arith

    new : List Strip
    new = strips d (numbered_shape (job_of l) k)

    fits : at + length (map strip_entry new) ≤ length store
    unfolding new
    fits = let w = r.wide in let b = f.strips in simp length-map (omega arith)

    -- a start that is not the new one
    same_start : (i : ℕ) → i ≤ k → get_or (set starts (k + 1) next) i 0 ≡ get_or starts i 0
    same_start i b = get_or-set_other starts (k + 1) i next 0 (λ e. omega arith)

    new_start : get_or (set starts (k + 1) next) (k + 1) 0 ≡ next
    new_start = get_or-set_same starts (k + 1) next 0 long

    -- a shape that was stored before
    kept : (i : ℕ) → i < k → ShapeAt d (numbered_shape (job_of l) i) after (set starts (k + 1) next) i
    unfolding new
    kept i b =
        let s = m.shapes i b in
        let p = same_start i (omega arith) in
        let q = same_start (i + 1) (omega arith) in
        let e = m.before (i + 1) (omega arith) in
        record {
          held = record {
            started = let b = long in simp length-set (omega arith);
            rising = rw (p, q) s.held.rising;
            within = rw (q, a.stored, length-sets) s.held.within;
          };
          holds =
              rw (p, q, a.stored)
              (part_before store (map strip_entry new) at fits (get_or starts i 0) (get_or starts (i + 1) 0 - get_or starts i 0) (omega arith) ∙ s.holds);
          small = s.small;
        }

    -- the shape that is stored now
    added : ShapeAt d (numbered_shape (job_of l) k) after (set starts (k + 1) next) k
    unfolding new
    added =
        let p : get_or (set starts (k + 1) next) k 0 ≡ at = same_start k (omega arith) ∙ m.next in
        let q : get_or (set starts (k + 1) next) (k + 1) 0 ≡ next = new_start in
        let e = a.end in
        let w : next - at ≡ length (map strip_entry new) = simp length-map (omega arith) in
        record {
          held = record {
            started = let b = long in simp length-set (omega arith);
            rising = rw (p, q) (omega arith);
            within = let w = r.wide in let b = f.strips in rw (q, a.stored, length-sets) (omega arith);
          };
          holds = rw (p, q, w, a.stored) (part_stored store (map strip_entry new) at fits);
          small = f.small;
        }

    -- one more shape is stored
    pub made_more : Made d l after (set starts (k + 1) next) (k + 1) next
    made_more =
        let e = a.end in
        let b = m.few in
        record {
          next = new_start;
          before =
              λ i b.
              ⊎_elim (λ (h : i ≡ k + 1). rw (h, new_start) (omega arith))
              (λ (h : i < k + 1). rw (same_start i (omega arith)) (omega (arith, m.before i (omega arith))))
              (eq-or-lt_of_le b);
          few = omega (arith, f.half, reached_next l.table k);
          shapes =
              λ i b.
              ⊎_elim (λ (h : i ≡ k). subst (λ n. ShapeAt d (numbered_shape (job_of l) n) after (set starts (k + 1) next) n) (sym h) added)
              (λ (h : i < k). kept i h)
              (eq-or-lt_of_le (omega arith));
        }

-- after the last: the shapes of the job
pub made_all : (d : Direction) (l : Lent) (store : List (List ℕ)) (starts : List ℕ) (k at : ℕ) → (job_of l).size.count * 4 ≤ k
    → Made d l store starts k at → Shapes d (job_of l) store starts
made_all d l store starts k at h m =
    record {
      at =
          λ i t b.
          subst (λ s. ShapeAt d s store starts (shape_number i t)) (number_back (job_of l) i t)
          (m.shapes (shape_number i t) (omega (arith, turn_below t)));
    }

-- a part of the store that is a shape's strips is ordered
pub strips_of_lem : (d : Direction) (s : Shape) (store : List (List ℕ)) (starts : List ℕ) (k : ℕ) → ShapeAt d s store starts k
    → StripsOf d s (part store starts k)
strips_of_lem d s store starts k a = record { same = a.holds; ordered = rw a.holds (entries_ordered d s a.small) }
