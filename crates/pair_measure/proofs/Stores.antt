-- The strips of two pieces of a job in a local store: they are few enough to fit it, and each piece's part of it is its stretch, which
-- the functions over strips can take. Assumes nothing.
use Rattle.list_laws.proofs.Kit.{◌∙◌, ◌≡◌, ap, subst, sym, List, ◌++◌, append_assoc, map}
use Rattle.list_laws.proofs.Kit.{◌*◌, ◌+◌, ◌-◌, ◌<◌, ◌≤◌, ℕ, mul-le-mul, arith, drop, length, length-map, take}
use Rattle.list_laws.proofs.Kit.{drop_at, length-sets, sets-eq, take_at}
use Rattle.model.specs.Piece.{Shape, extent, other, corner}
use Rattle.model.specs.Strip.{Strip, strips}
use Rattle.model.specs.Layout.{turned_piece}
use Rattle.model.specs.Lent.{lent_by, job_of, lent_shape, pixel_start, entry_area}
use Rattle.model.specs.Buffer.{strip_entry}
use Rattle.model.specs.declared.JobSize.{JobSize}
use Rattle.model.specs.declared.Placement.{Placement}
use Rattle.model.specs.declared.Turn.{Turn}
use Rattle.model.specs.declared.Direction.{Direction}
use Rattle.model.specs.declared.Direction.TheVariants.{Horizontal, Vertical}
use Rattle.job_laws.specs.Entries.{EntryAt}
use Rattle.job_laws.proofs.Turned.{turned_extent}
use Rattle.strip_scan.specs.Put.{Appended}
use Rattle.pair_overlap.specs.Meet.{Ordered, Near, depth_below}
use Rattle.pair_overlap.specs.declared.Corner.{Corner}
use Rattle.pair_overlap.specs.Seen.{entries, seen}
use Rattle.pair_overlap.proofs.Shapes.{entries_ordered}
use Rattle.pair_measure.specs.Ready.{Roomy}
use Rattle.pair_measure.proofs.Rooms.{turned_lines, strips_half}

-- the shapes of a job do not depend on its sheet: any will do
pub any_size : JobSize
any_size = record { rows = 0; columns = 0; count = 0; gap = 0 }

-- two stretches in a store, the second behind the first
pub record StretchBehind (ts us : List Strip) (after : List (List ℕ)) (middle end : ℕ) : Type 0 where
  pub order : middle ≤ end
  pub within : end ≤ length after
  pub first : take (middle - 0) (drop 0 after) ≡ map strip_entry ts
  pub second : take (end - middle) (drop middle after) ≡ map strip_entry us

-- strips that are put into a store one after the other
both_put : (ts us : List Strip) (before between after : List (List ℕ)) (middle end : ℕ) → length ts + length us ≤ length before
    → Appended ts before 0 between middle → Appended us between middle after end → StretchBehind ts us after middle end
both_put ts us before between after middle end room a b =
    let vs : List (List ℕ) = map strip_entry ts in
    let ws : List (List ℕ) = map strip_entry us in
    let m : length vs ≡ middle = omega (arith, a.end, length-map ts strip_entry) in
    let n : length ws ≡ end - middle = omega (arith, b.end, length-map us strip_entry) in
    let e = b.end in
    let l : length between ≡ length before = ap length a.stored ∙ length-sets before 0 vs in
    let k : length after ≡ length between = ap length b.stored ∙ length-sets between middle ws in
    let front : take middle between ≡ vs =
    ap (take middle) (a.stored ∙ sets-eq vs before 0 (omega arith)) ∙ take_at vs (drop (0 + length vs) before) middle m in
    let rest : List (List ℕ) = drop (middle + length ws) between in
    let is : after ≡ vs ++ (ws ++ rest) =
    b.stored ∙ sets-eq ws between middle (omega arith) ∙ ap (λ (z : List (List ℕ)). (z ++ ws) ++ rest) front ∙ append_assoc vs ws rest in
    record {
      order = omega arith;
      within = omega arith;
      first = ap (take (middle - 0)) is ∙ take_at vs (ws ++ rest) (middle - 0) (omega arith);
      second =
          ap (λ (z : List (List ℕ)). take (end - middle) (drop middle z)) is
          ∙ ap (take (end - middle)) (drop_at vs (ws ++ rest) middle m)
          ∙ take_at ws rest (end - middle) n;
    }

module _ (size : JobSize) (table : List (List ℕ)) (pixels : List ℕ) (i : ℕ) (e : EntryAt table i (pixel_start table i)) (t : Turn) (d : Direction) where
  -- its sides are at most 255
  pub piece_extent : extent d (turned_piece (job_of (lent_by size table pixels)) i t) ≤ 255
  unfolding job_of
  piece_extent = turned_extent d t (lent_shape (lent_by size table pixels) i) 255 e.columns e.rows

  -- its box has the pixels of its entry
  pub piece_area : (turned_piece (job_of (lent_by size table pixels)) i t).columns * (turned_piece (job_of (lent_by size table pixels)) i t).rows
      ≡ entry_area table i
  unfolding job_of
  piece_area = turned_lines Vertical t (lent_shape (lent_by size table pixels) i)

  -- twice its strips are at most its pixels and one for each line
  piece_few : 2 * length (strips d (turned_piece (job_of (lent_by size table pixels)) i t)) ≤ entry_area table i + 255
  unfolding job_of
  piece_few =
      let s : Shape = lent_shape (lent_by size table pixels) i in
      omega (arith, strips_half d t s, turned_extent (other d) t s 255 e.columns e.rows)

  -- so they are at most 65,536
  pub piece_most : length (strips d (turned_piece (job_of (lent_by size table pixels)) i t)) ≤ 65536
  piece_most =
      let area : entry_area table i ≤ 255 * 255 = mul-le-mul e.columns e.rows in
      let few = piece_few in omega arith

  -- its stretch is in order
  pub piece_ordered : Ordered (entries d (turned_piece (job_of (lent_by size table pixels)) i t))
  piece_ordered = entries_ordered d _ piece_extent

module _ (size : JobSize) (table : List (List ℕ)) (pixels : List ℕ) (i k : ℕ) (e : EntryAt table i (pixel_start table i))
    (f : EntryAt table k (pixel_start table k)) (n : ℕ) (g : Roomy table i k n) (t u : Turn) (d : Direction) where
  -- the strips of two pieces have room in a store
  pub both_few : length (strips d (turned_piece (job_of (lent_by size table pixels)) i t))
      + length (strips d (turned_piece (job_of (lent_by size table pixels)) k u)) ≤ n
  both_few = omega (arith, piece_few size table pixels i e t d, piece_few size table pixels k f u d)

  -- and stand in it one behind the other
  pub both_behind : (before between after : List (List ℕ)) (middle end : ℕ) → length before ≡ n
      → Appended (strips d (turned_piece (job_of (lent_by size table pixels)) i t)) before 0 between middle
      → Appended (strips d (turned_piece (job_of (lent_by size table pixels)) k u)) between middle after end
      → StretchBehind (strips d (turned_piece (job_of (lent_by size table pixels)) i t)) (strips d (turned_piece (job_of (lent_by size table pixels)) k u))
      after middle end
  both_behind before between after middle end l a b = both_put _ _ before between after middle end (omega (arith, both_few)) a b

-- a corner within reach is so in each direction
near_seen : (d : Direction) (p : Placement) → p.x.0 < 16384 → p.y.0 < 16384 → Near (seen d (corner p))
near_seen Horizontal p x y = (x, y)
near_seen Vertical p x y = (y, x)

pub seen_near : (d : Direction) (p : Placement) (u : Corner) → u ≡ seen d (corner p) → p.x.0 < 16384 → p.y.0 < 16384 → Near u
seen_near d p u e x y = subst Near (sym e) (near_seen d p x y)

-- equal stretches and corners have equal bounded depths
pub same_depth : (g : ℕ) (es es' : List (List ℕ)) (u u' : Corner) (fs fs' : List (List ℕ)) (v v' : Corner) (bound : ℕ) → es ≡ es' → u ≡ u'
    → fs ≡ fs' → v ≡ v' → depth_below g es u fs v bound ≡ depth_below g es' u' fs' v' bound
same_depth g es es' u u' fs fs' v v' bound a b c d = λ i. depth_below g (a i) (b i) (c i) (d i) bound
