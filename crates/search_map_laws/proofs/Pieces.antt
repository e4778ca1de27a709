-- Two pieces of a job that passes its check, in their turns: what `make_map` and `map_line` ask of their sides and strips. A map is made of the moved
-- piece grown by twice the gap, and a line read from it is that of both pieces grown by the gap. The moved piece's strips are lent in the
-- opposite turn. Assumes nothing.
use Rattle.list_laws.proofs.Kit.{◌∙◌, ◌≡◌, ◌≢◌, subst, sym, ⊎_elim, inl, inr, true, List, ◌*◌, ◌+◌, ◌<◌, ◌≤◌, ℕ, arith}
use Rattle.list_laws.proofs.Numbers.{below_or}
use Rattle.model.specs.Piece.{Shape, other, extent, turned}
use Rattle.model.specs.Layout.{turned_piece}
use Rattle.model.specs.Lent.{Lent, job_of, lent_well, side_bound, area_bound}
use Rattle.model.specs.declared.Direction.{Direction}
use Rattle.model.specs.declared.Direction.TheVariants.{Horizontal, Vertical}
use Rattle.model.specs.declared.Turn.{Turn}
use Rattle.model.specs.declared.Turn.TheVariants.{Half}
use Rattle.strip_laws.proofs.Boxes.{same_extent}
use Rattle.strip_laws.proofs.Tight.{tight_side}
use Rattle.overlap_laws.specs.Grown.{grown, grown_piece, wide_bound}
use Rattle.overlap_laws.proofs.Grown.{grown_extent}
use Rattle.overlap_laws.proofs.GrownTurns.{turned_grown}
use Rattle.overlap_laws.proofs.Largest.{sides_small}
use Rattle.job_laws.proofs.Checked.{lent_gap, lent_turned_small}
use Rattle.job_laws.proofs.Turned.{turned_area}
use Rattle.call_laws.proofs.Jobs.{lent_boxes_small, lent_tight}
use Rattle.pair_overlap.specs.Seen.{entries}
use Rattle.search_shapes.specs.Shapes.{StripsOf}
use Rattle.search_maps.specs.Map.{extra_limit, opposite, sides_of, SideFits, SidesFit, StripsIn, MovedIn}
use Rattle.search_maps.proofs.Fitting.{strips_in_lem}
use Rattle.search_maps.proofs.Turning.{opposite_entries, opposite_moved}
use Rattle.search_map_lines.specs.Line.{ByteSides}
use Rattle.search_map_laws.specs.Boxes.{ShortTogether}

module _ (l : Lent) (well : lent_well l ≡ true) where
  -- two different pieces' boxes have at most 65,536 pixels together
  areas_small : (i k : ℕ) → i < (job_of l).size.count → k < (job_of l).size.count → i ≢ k
      → ((job_of l).piece i).shape.columns * ((job_of l).piece i).shape.rows + ((job_of l).piece k).shape.columns * ((job_of l).piece k).shape.rows ≤ area_bound
  areas_small i k hi hk differ =
      ⊎_elim
      (λ (h : i < k). (lent_boxes_small l well).together i k h hk)
      (λ (h : k ≤ i). omega (arith, (lent_boxes_small l well).together k i (omega arith) hi))
      (below_or i k)

  module _ (i : ℕ) (t : Turn) (h : i < (job_of l).size.count) where
    -- a piece's box has a pixel along each side, in every turn
    side_some : (e : Direction) → 1 ≤ extent e (turned_piece (job_of l) i t)
    side_some e = tight_side e (turned_piece (job_of l) i t) (lent_tight l well i t h)

    -- and at most 255
    side_small : (e : Direction) → extent e (turned_piece (job_of l) i t) ≤ side_bound
    side_small e = lent_turned_small l well e i t h

    -- grown, it is longer by the gap
    grown_side : (e : Direction) → extent e (grown_piece (job_of l) i t) ≡ extent e (turned_piece (job_of l) i t) + (job_of l).size.gap
    grown_side e =
        same_extent e _ _ (turned_grown t (job_of l).size.gap ((job_of l).piece i).shape)
        ∙ grown_extent e (job_of l).size.gap (turned_piece (job_of l) i t)

    -- and has 1 to 263 pixels along each side
    pub grown_some : (e : Direction) → 1 ≤ extent e (grown_piece (job_of l) i t)
    grown_some e = omega (arith, side_some e, grown_side e)

    pub grown_small : (e : Direction) → extent e (grown_piece (job_of l) i t) ≤ wide_bound
    grown_small e = omega (arith, side_small e, grown_side e, lent_gap l well)

    -- a side that a map is read for, and one that it is made for, grown by twice the gap
    read_fits : (e : Direction) → SideFits (extent e (grown_piece (job_of l) i t))
    read_fits e = record { low = grown_some e; high = omega (arith, grown_small e) }

    made_fits : (e : Direction) → SideFits (extent e (turned_piece (job_of l) i t) + ((job_of l).size.gap + (job_of l).size.gap))
    made_fits e = record { low = omega (arith, side_some e); high = omega (arith, side_small e, lent_gap l well) }

    plain_fits : (e : Direction) → SideFits (extent e (turned_piece (job_of l) i t))
    plain_fits e = record { low = side_some e; high = omega (arith, side_small e) }

  -- of two different pieces, grown, every penalty fits a byte
  pub asked_small : (i k : ℕ) (t u : Turn) → i < l.size.count → k < l.size.count → i ≢ k
      → ShortTogether (grown_piece (job_of l) i t) (grown_piece (job_of l) k u)
  unfolding job_of
  asked_small i k t u hi hk differ =
      let g = lent_gap l well in
      ⊎_elim
      (λ h. inl (omega (arith, h, grown_side i t hi Horizontal, grown_side k u hk Horizontal)))
      (λ h. inr (omega (arith, h, grown_side i t hi Vertical, grown_side k u hk Vertical)))
      (sides_small
      (turned_piece (job_of l) i t).columns (turned_piece (job_of l) i t).rows (turned_piece (job_of l) k u).columns (turned_piece (job_of l) k u).rows
      (side_small i t hi Horizontal) (side_small i t hi Vertical) (side_small k u hk Horizontal) (side_small k u hk Vertical)
      (omega (arith, areas_small i k hi hk differ, turned_area t ((job_of l).piece i).shape, turned_area u ((job_of l).piece k).shape)))

  module _ (i k : ℕ) (t u : Turn) (hi : i < (job_of l).size.count) (hk : k < (job_of l).size.count) where
    -- the sides of two pieces, grown, are such as maps are read for
    pub sides_fit : SidesFit (sides_of Horizontal (grown_piece (job_of l) i t) (grown_piece (job_of l) k u))
    sides_fit =
        record {
          moved_along = read_fits i t hi Horizontal;
          moved_across = read_fits i t hi Vertical;
          standing_along = read_fits k u hk Horizontal;
          standing_across = read_fits k u hk Vertical;
        }

    -- and those with the moved piece grown by twice the gap such as maps are made for
    pub making_fit : SidesFit (sides_of Horizontal (grown ((job_of l).size.gap + (job_of l).size.gap) (turned_piece (job_of l) i t)) (turned_piece (job_of l) k u))
    making_fit =
        record {
          moved_along = made_fits i t hi Horizontal;
          moved_across = made_fits i t hi Vertical;
          standing_along = plain_fits k u hk Horizontal;
          standing_across = plain_fits k u hk Vertical;
        }

    -- where the grown boxes are short together, the sides are such that every penalty fits a byte
    pub byte_sides : ShortTogether (grown_piece (job_of l) i t) (grown_piece (job_of l) k u)
        → ByteSides (sides_of Horizontal (grown_piece (job_of l) i t) (grown_piece (job_of l) k u))
    byte_sides short =
        record {
          moved = grown_small i t hi Vertical;
          standing = grown_small k u hk Vertical;
          moved_along = grown_small i t hi Horizontal;
          standing_along = grown_small k u hk Horizontal;
          small = short;
        }

-- ── strips as the search has them ──

module _ (d : Direction) (t : Turn) (s : Shape) (es : List (List ℕ)) where
  -- the moved piece's, in the opposite turn
  pub moved_entries : StripsOf d (turned (opposite t) s) es → es ≡ entries d (turned Half (turned t s))
  moved_entries h = h.same ∙ opposite_entries d t s

  -- and lie in its box, before it is grown
  pub moved_in : (u : Shape) (extra : ℕ) → extra ≤ extra_limit → StripsOf d (turned (opposite t) s) es
      → MovedIn (sides_of d (grown extra (turned t s)) u) extra es
  moved_in u extra few h = subst (MovedIn (sides_of d (grown extra (turned t s)) u) extra) (sym h.same) (opposite_moved d t s u extra few)

  -- the standing piece's, in its turn
  pub standing_entries : StripsOf d (turned t s) es → es ≡ entries d (turned t s)
  standing_entries h = h.same

  -- and lie in its box
  pub standing_in : StripsOf d (turned t s) es → StripsIn (extent d (turned t s)) (extent (other d) (turned t s)) es
  standing_in h = subst (StripsIn (extent d (turned t s)) (extent (other d) (turned t s))) (sym h.same) (strips_in_lem d (turned t s))
