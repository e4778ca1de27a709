-- A layout that pieces were pushed to can be pushed again: each piece keeps its turn, and so its strips stand where they stood; and the sum of all
-- corner coordinates, which falls by the pixels slid, is small. Assumes nothing.
use Rattle.list_laws.proofs.Kit.{◌∙◌, ◌≡◌, ap, ap₂, sym, false, true, List, map, ◌+◌, ◌≤◌, suc, ℕ, arith, length, length-map}
use Rattle.model.specs.Strip.{strips}
use Rattle.model.specs.Layout.{Job, Layout, is_locked, place_of, corner_in, turned_piece}
use Rattle.model.specs.Lent.{Lent, lent_by, job_of, pixel_start}
use Rattle.model.specs.Buffer.{strip_entry, layout_of, entries_of, entry_of, placement_of}
use Rattle.model.specs.Compact.{Compacted, at_rest, then_slides, corner_sum, until_at_rest, left_then_down, push_piece, push_below}
use Rattle.model.specs.declared.Direction.{Direction}
use Rattle.model.specs.declared.JobSize.{JobSize}
use Rattle.model.specs.declared.Turn.{Turn}
use Rattle.list_laws.proofs.Sums.{sum_bound_lem}
use Rattle.text_laws.proofs.Entries.{entries_read_back}
use Rattle.job_laws.proofs.Checked.{facts}
use Rattle.descent_laws.proofs.Lent.{corner_within}
use Rattle.compact_laws.specs.Pushed.{Pushed}
use Rattle.layout_strips.specs.Kept.{drawn_shape, Stands}
use Rattle.layout_slides.specs.Slidable.{Drawn}
use Rattle.layout_pushes.specs.Pushable.{Pushable}

-- ── strips of a layout in the same turns ──

module _ (d : Direction) (table : List (List ℕ)) (pixels : List ℕ) (es fs store spans : List (List ℕ)) (same : length fs ≡ length es)
    (turns : (i : ℕ) → (place_of (layout_of fs) i).turn ≡ (place_of (layout_of es) i).turn)
  where
    -- a piece's strips are the same
    same_strips : (size : JobSize) (i : ℕ) → strips d (drawn_shape size table pixels es i) ≡ strips d (drawn_shape size table pixels fs i)
    same_strips size i = ap (λ (t : Turn). strips d (turned_piece (job_of (lent_by size table pixels)) i t)) (sym (turns i))

    -- so they stand where they stood
    stands_moved : (i : ℕ) → Stands d table pixels es store spans i → Stands d table pixels fs store spans i
    stands_moved i s =
        record {
          start = s.start;
          end = λ size. s.end size ∙ ap (λ ts. pixel_start table i + length ts) (same_strips size i);
          holds = λ size. s.holds size ∙ ap (map strip_entry) (same_strips size i);
        }

    -- and those of all pieces
    pub drawn_moved : Drawn d table pixels es store spans → Drawn d table pixels fs store spans
    drawn_moved h =
        record {
          kept = record {
            room = h.kept.room;
            long = h.kept.long;
            made = λ i b m. stands_moved i (h.kept.made i (omega arith) m);
          };
          all = λ i b. h.all i (omega arith);
        }

-- ── after a push ──

-- a buffer that holds a layout is read as the layout
pub read_back : (v : Layout) (fs : List (List ℕ)) → fs ≡ entries_of v → layout_of fs ≡ v
read_back v fs e = ap layout_of e ∙ entries_read_back v

module _ (l : Lent) (es rows rowSpans columns columnSpans : List (List ℕ)) (h : Pushable l es rows rowSpans columns columnSpans) where
  -- the layout has a placement a piece
  pub whole : length (layout_of es) ≡ (job_of l).size.count
  whole = h.laid.valid.one_per_piece

  -- the layout that pieces are pushed to can be pushed again
  pub pushable_after : (c : Compacted) → Pushed (job_of l) (layout_of es) c → (fs : List (List ℕ)) → fs ≡ entries_of c.layout
      → Pushable l fs rows rowSpans columns columnSpans
  pushable_after c p fs e =
      let back : layout_of fs ≡ c.layout = read_back c.layout fs e in
      let turns : (i : ℕ) → (place_of (layout_of fs) i).turn ≡ (place_of (layout_of es) i).turn = λ i. ap (λ (v : Layout). (place_of v i).turn) back ∙ p.turns i in
      let long : length fs ≡ length es = ap length e ∙ length-map c.layout entry_of ∙ p.one_per_piece ∙ length-map es placement_of in
      record {
        laid = record { well = h.laid.well; whole = long ∙ h.laid.whole; valid = rw back (p.valid h.laid.valid) };
        written = ap entries_of back ∙ sym e;
        rows_drawn = drawn_moved _ l.table l.pixels es fs rows rowSpans long turns h.rows_drawn;
        columns_drawn = drawn_moved _ l.table l.pixels es fs columns columnSpans long turns h.columns_drawn;
      }

  -- the sum of all corner coordinates is small
  pub sum_small : corner_sum (layout_of es) ≤ 294912
  unfolding corner_sum job_of
  sum_small =
      let n : length (layout_of es) ≡ l.size.count = whole in
      let few = (facts l h.laid.well).few_pieces in
      let bounded = sum_bound_lem (length (layout_of es)) 4608 (λ i. (corner_in (layout_of es) i).x + (corner_in (layout_of es) i).y)
      (λ k b. let w = corner_within l es h.laid k (omega arith) in let x = w.0 in let y = w.1 in omega arith) in
      omega arith

  -- so few pixels are slid
  pub slid_small : (c : Compacted) → Pushed (job_of l) (layout_of es) c → c.slid ≤ 294912
  slid_small c p = let fall = p.slid_is_fall in let small = sum_small in omega arith

-- ── one push after another ──

module _ (c : Compacted) (next : Layout → Compacted) (fs gs : List (List ℕ)) (slid more : ℕ)
    (told : slid ≡ c.slid) (at : fs ≡ entries_of c.layout) (toldMore : more ≡ (next (layout_of fs)).slid) (atMore : gs ≡ entries_of (next (layout_of fs)).layout)
  where
    -- the pixels of both
    pub then_slid : slid + more ≡ (then_slides c next).slid
    then_slid = ap₂ ◌+◌ told (toldMore ∙ ap (λ (w : Layout). (next w).slid) (read_back c.layout fs at))

    -- the layout of the second
    pub then_layout : gs ≡ entries_of (then_slides c next).layout
    then_layout = atMore ∙ ap (λ (w : Layout). entries_of (next w).layout) (read_back c.layout fs at)

-- ── one piece after another ──

-- a locked piece is not pushed
pub piece_locked_lem : (j : Job) (i : ℕ) (v : Layout) → is_locked j i ≡ true → push_piece j i v ≡ at_rest v
unfolding push_piece
piece_locked_lem j i v e = rw (push_piece, e)

-- a free one is
pub piece_free_lem : (j : Job) (i : ℕ) (v : Layout) → is_locked j i ≡ false → push_piece j i v ≡ until_at_rest (left_then_down j i) v
unfolding push_piece
piece_free_lem j i v e = rw (push_piece, e)

-- one piece more
pub below_next : (j : Job) (i : ℕ) (v : Layout) → push_below j (i + 1) v ≡ then_slides (push_below j i v) (push_piece j i)
unfolding push_below
below_next j i v = let e : i + 1 ≡ suc i = omega arith in rw (e, push_below)
