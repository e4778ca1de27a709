-- Sources that give the same line, and lines made from them. Assumes nothing.
use Rattle.list_laws.proofs.Kit.{◌∙◌, ◌≡◌, ap, refl, subst, sym, ⊎_elim, inl, inr, Bool, false, true, List, ◌++◌, ◌+◌, ◌-◌, ◌<◌, ◌≤◌, ℕ, arith, drop, get_or}
use Rattle.list_laws.proofs.Kit.{get_or-take, length, length-drop, length-take-le, take}
use Rattle.model.specs.Piece.{Shape, extent, other, turned}
use Rattle.model.specs.Lent.{Lent, job_of, gap_bound}
use Rattle.model.specs.declared.Direction.{Direction}
use Rattle.model.specs.declared.Direction.TheVariants.{Horizontal, Vertical}
use Rattle.job_laws.proofs.Checked.{facts}
use Rattle.strip_laws.specs.Boxes.{SameShape}
use Rattle.strip_laws.proofs.Boxes.{same_extent}
use Rattle.overlap_laws.specs.Grown.{grown, wide_bound}
use Rattle.search_classes.specs.Classes.{Classes}
use Rattle.search_classes.proofs.Equals.{turned_same}
use Rattle.search_laws.specs.Lines.{middle, line_places, line_penalty, HoldsLine}
use Rattle.search_map_laws.specs.Boxes.{ShortTogether}
use Rattle.search_map_laws.specs.Turns.{turn_before}
use Rattle.search_map_laws.proofs.Grown.{grown_same}
use Rattle.search_map_laws.proofs.Pieces.{grown_some, grown_small}
use Rattle.search_map_laws.proofs.Quarters.{line_same, row_back, column_back, sides_back}
use Rattle.search_lines.specs.declared.Two.{Two}
use Rattle.search_lines.specs.declared.Source.{Source}
use Rattle.search_lines.specs.Making.{moved_shape, standing_shape, exchanged_two, Asked, LineMade, Backwards}
use Rattle.search_lines.specs.Sources.{Named, SameLine, plain_source, back_source, mirrored_offset, classed_two, quarter_along, quarter_source, SourceMade}
use Rattle.search_lines.proofs.Exchanging.{exchanged_penalty}
use Rattle.search_lines.proofs.Parts.{put_length, put_in, put_before, put_after}

-- ── short together ──

-- shapes alike are short together as well
short_same : (s t s' t' : Shape) → SameShape s s' → SameShape t t' → ShortTogether s t → ShortTogether s' t'
short_same s t s' t' a b h =
    ⊎_elim (λ x. inl (omega (arith, x, a.columns, b.columns))) (λ x. inr (omega (arith, x, a.rows, b.rows))) h

-- and so are the two exchanged
short_exchanged : (s t : Shape) → ShortTogether s t → ShortTogether t s
short_exchanged s t h = ⊎_elim (λ x. inl (omega (arith, x))) (λ x. inr (omega (arith, x))) h

-- and the two turned by a quarter
short_turned : (s t s' t' : Shape) → s'.rows ≡ s.columns → s'.columns ≡ s.rows → t'.rows ≡ t.columns → t'.columns ≡ t.rows
    → ShortTogether s t → ShortTogether s' t'
short_turned s t s' t' a b c e h = ⊎_elim (λ x. inr (omega (arith, x, a, c))) (λ x. inl (omega (arith, x, b, e))) h

-- ── the same line ──

-- a source gives its own line
pub same_none : (l : Lent) (a : Source) → Named l a.two → SameLine l a a
same_none l a n = record { named = n; places = refl; each = λ k h. refl }

-- one source after the other
pub same_on : (l : Lent) (a b c : Source) → SameLine l a b → SameLine l b c → SameLine l a c
same_on l a b c p q =
    let e = p.places in
    record { named = q.named; places = q.places ∙ p.places; each = λ k h. q.each k (omega arith) ∙ p.each k h }

module _ (l : Lent) (two : Two) (n : Named l two) where
  -- both are pieces of the job
  moved_there : two.moved < (job_of l).size.count
  unfolding job_of
  moved_there = n.moved

  standing_there : two.standing < (job_of l).size.count
  unfolding job_of
  standing_there = n.standing

  -- their entries are in the table
  pub named_entries : (two.moved < length l.table) × (two.standing < length l.table) × (l.size.gap ≤ gap_bound)
  named_entries = let f = (facts l n.well).entries in (omega (arith, n.moved), omega (arith, n.standing), (facts l n.well).small_gap)

  -- their sides are 1 to 263
  side_some : (d : Direction) → 1 ≤ extent d (moved_shape l two)
  side_some d = grown_some l n.well two.moved two.moved_turn moved_there d

  standing_some : (d : Direction) → 1 ≤ extent d (standing_shape l two)
  standing_some d = grown_some l n.well two.standing two.standing_turn standing_there d

  pub moved_small : (d : Direction) → extent d (moved_shape l two) ≤ wide_bound
  moved_small d = grown_small l n.well two.moved two.moved_turn moved_there d

  pub standing_small : (d : Direction) → extent d (standing_shape l two) ≤ wide_bound
  standing_small d = grown_small l n.well two.standing two.standing_turn standing_there d

  -- they fit a local line
  pub places_few : (d : Direction) → line_places d (moved_shape l two) (standing_shape l two) ≤ 526
  places_few d = let a = moved_small d in let b = standing_small d in omega arith

  -- the two exchanged give the line backwards
  pub exchanged_same : (d : Direction) → SameLine l (plain_source d two) (back_source d (exchanged_two two))
  exchanged_same d =
      let e : line_places d (standing_shape l two) (moved_shape l two) ≡ line_places d (moved_shape l two) (standing_shape l two) = omega arith in
      record {
        named = record {
          well = n.well;
          moved = n.standing;
          standing = n.moved;
          offset = omega arith;
          small = short_exchanged (moved_shape l two) (standing_shape l two) n.small;
        };
        places = e;
        each = λ k h.
            ap (λ (m : ℕ). line_penalty d (standing_shape l two) (moved_shape l two) (middle + middle - two.offset) (m - 1 - k)) e
            ∙ exchanged_penalty d (moved_shape l two) (standing_shape l two) two.offset k (side_some d) (standing_some d) h (moved_small (other d));
      }

  -- the classes of the two give the same line
  pub classed_same : (classes : List ℕ) → Classes (job_of l) classes → (d : Direction) → SameLine l (plain_source d two) (plain_source d (classed_two classes two))
  classed_same classes c d =
      let both : Two = classed_two classes two in
      let a : SameShape (moved_shape l two) (moved_shape l both) =
      turned_same _ _ (grown_same (job_of l).size.gap _ _ (c two.moved moved_there).1) two.moved_turn in
      let b : SameShape (standing_shape l two) (standing_shape l both) =
      turned_same _ _ (grown_same (job_of l).size.gap _ _ (c two.standing standing_there).1) two.standing_turn in
      let ea = same_extent d (moved_shape l two) (moved_shape l both) a in
      let eb = same_extent d (standing_shape l two) (standing_shape l both) b in
      record {
        named = record {
          well = n.well;
          moved = (let h = (c two.moved moved_there).0 in let m = n.moved in omega arith);
          standing = (let h = (c two.standing standing_there).0 in let m = n.standing in omega arith);
          offset = n.offset;
          small = short_same (moved_shape l two) (standing_shape l two) (moved_shape l both) (standing_shape l both) a b n.small;
        };
        places = omega arith;
        each = λ k h. sym (line_same d (moved_shape l two) (standing_shape l two) (moved_shape l both) (standing_shape l both) two.offset k a b);
      }

  -- the grown shapes before their turns, and both turned back by a quarter
  abbrev first : Shape
  first = grown (job_of l).size.gap ((job_of l).piece two.moved).shape

  abbrev second : Shape
  second = grown (job_of l).size.gap ((job_of l).piece two.standing).shape

  abbrev first_back : Shape
  first_back = turned (turn_before two.moved_turn) first

  abbrev second_back : Shape
  second_back = turned (turn_before two.standing_turn) second

  -- they are short together
  short_back : ShortTogether first_back second_back
  short_back =
      let e = sides_back first second two.moved_turn two.standing_turn two.offset 0 in
      short_turned (moved_shape l two) (standing_shape l two) first_back second_back e.0 e.1 e.2 e.3 n.small

  -- so they are named as well
  quarter_named : (d : Direction) (back : Bool) → Named l (quarter_along d l two back).two
  quarter_named Horizontal back = record { well = n.well; moved = n.moved; standing = n.standing; offset = n.offset; small = short_back }
  quarter_named Vertical back =
      record { well = n.well; moved = n.moved; standing = n.standing; offset = (let a = moved_small Horizontal in omega arith); small = short_back }

  -- their lines have as many places
  back_places : (line_places Vertical first_back second_back ≡ line_places Horizontal (moved_shape l two) (standing_shape l two))
      × (line_places Horizontal first_back second_back ≡ line_places Vertical (moved_shape l two) (standing_shape l two))
  back_places =
      let e = sides_back first second two.moved_turn two.standing_turn two.offset 0 in
      (omega (arith, e.0, e.2), omega (arith, e.1, e.3))

  -- and give the same line
  quarter_along_lem : (d : Direction) (back : Bool) → SameLine l (record { two = two; direction = d; back = back }) (quarter_along d l two back)
  quarter_along_lem Horizontal false =
      let e = back_places.0 in
      record {
        named = quarter_named Horizontal false;
        places = e;
        each = λ k h.
            ap (λ (m : ℕ). line_penalty Vertical first_back second_back two.offset (m - 1 - k)) e
            ∙ sym (row_back first second two.moved_turn two.standing_turn two.offset k (side_some Horizontal) h);
      }
  quarter_along_lem Horizontal true =
      let m : ℕ = line_places Horizontal (moved_shape l two) (standing_shape l two) in
      record {
        named = quarter_named Horizontal true;
        places = back_places.0;
        each = λ k h.
            let z : k ≡ m - 1 - (m - 1 - k) = omega arith in
            ap (line_penalty Vertical first_back second_back two.offset) z
            ∙ sym (row_back first second two.moved_turn two.standing_turn two.offset (m - 1 - k) (side_some Horizontal) (omega arith));
      }
  quarter_along_lem Vertical false =
      record {
        named = quarter_named Vertical false;
        places = back_places.1;
        each = λ k h. sym (column_back first second two.moved_turn two.standing_turn two.offset k (standing_small Horizontal));
      }
  quarter_along_lem Vertical true =
      let e = back_places.1 in
      record {
        named = quarter_named Vertical true;
        places = e;
        each = λ k h.
            ap (λ (m : ℕ). line_penalty Horizontal first_back second_back (mirrored_offset l two) (m - 1 - k)) e
            ∙ sym (column_back first second two.moved_turn two.standing_turn two.offset
            (line_places Vertical (moved_shape l two) (standing_shape l two) - 1 - k) (standing_small Horizontal));
      }

-- so it is for a source
pub quarter_same : (l : Lent) (a : Source) → Named l a.two → SameLine l a (quarter_source l a)
quarter_same l a n = quarter_along_lem l a.two n a.direction a.back

-- as a call tells it
pub quarter_told : (l : Lent) (a r : Source) → Named l a.two → r ≡ quarter_source l a → SameLine l a r
quarter_told l a r n e = subst (SameLine l a) (sym e) (quarter_same l a n)

-- ── what is asked of the strips ──

-- the pieces of a source are asked for as well
pub asked_source : (l : Lent) (d : Direction) (store : List (List ℕ)) (starts : List ℕ) (two : Two) (a : Source) → Asked l store starts two
    → SameLine l (plain_source d two) a → Asked l store starts a.two
asked_source l d store starts two a asked same =
    let n = same.named in
    record { well = asked.well; shapes = asked.shapes; moved = n.moved; standing = n.standing; offset = n.offset; small = n.small }

-- what is asked for is named
pub asked_named : (l : Lent) (store : List (List ℕ)) (starts : List ℕ) (two : Two) → Asked l store starts two → Named l two
asked_named l store starts two asked =
    record { well = asked.well; moved = asked.moved; standing = asked.standing; offset = asked.offset; small = asked.small }

-- ── lines made ──

-- a line made forwards
pub made_plain : (l : Lent) (d : Direction) (two : Two) (old : List ℕ) (at : ℕ) (new : List ℕ)
    → LineMade d (moved_shape l two) (standing_shape l two) two.offset old at new → SourceMade l (plain_source d two) old at new
made_plain l d two old at new m = record { same = m.same; line = m.line; before = m.before; after = m.after }

-- the line of another source
pub made_same : (l : Lent) (d : Direction) (two : Two) (a : Source) (old : List ℕ) (at : ℕ) (new : List ℕ) → SameLine l (plain_source d two) a
    → SourceMade l a old at new → LineMade d (moved_shape l two) (standing_shape l two) two.offset old at new
made_same l d two a old at new s m =
    let e = s.places in
    record {
      same = m.same;
      line = λ k h. m.line k (omega arith) ∙ s.each k h;
      before = m.before;
      after = λ k h. m.after k (omega arith);
    }

-- the part of the store is as long as the line
pub parts_alike : (lines drawn : List ℕ) (at count : ℕ) → at + count ≤ length lines → count ≤ length drawn
    → length (take (at + count - at) (drop at lines)) ≡ length (take count drawn)
parts_alike lines drawn at count room long =
    let e : at + count - at ≡ count = omega arith in
    let b : count ≤ length (drop at lines) = simp length-drop (omega arith) in
    ap (λ (n : ℕ). length (take n (drop at lines))) e ∙ length-take-le count (drop at lines) b ∙ sym (length-take-le count drawn long)

-- the store with a drawn line in its part, backwards
pub made_back : (l : Lent) (d : Direction) (two : Two) (lines drawn part : List ℕ) (at count n : ℕ)
    → count ≡ line_places d (moved_shape l two) (standing_shape l two) → n ≡ count → at + n ≤ length lines → count ≤ length drawn
    → HoldsLine d (moved_shape l two) (standing_shape l two) two.offset drawn 0 → length part ≡ n → Backwards (take count drawn) part
    → SourceMade l (back_source d two) lines at (take at lines ++ (part ++ drop n (drop at lines)))
made_back l d two lines drawn part at count n ec en room long holds full back =
    let e : length (take count drawn) ≡ count = length-take-le count drawn long in
    record {
      same = put_length lines part at n full room;
      line = λ k h.
          let m : ℕ = line_places d (moved_shape l two) (standing_shape l two) - 1 - k in
          let x : length (take count drawn) - 1 - k ≡ m = omega arith in
          let z : m ≡ 0 + m = omega arith in
          put_in lines part at n full room k (omega arith)
          ∙ back.each k (omega arith)
          ∙ ap (λ (q : ℕ). get_or (take count drawn) q 0) x
          ∙ get_or-take count drawn m 0 (omega arith)
          ∙ ap (λ (q : ℕ). get_or drawn q 0) z
          ∙ holds m (omega arith);
      before = put_before lines part at n full room;
      after = λ k h. put_after lines part at n full room k (omega arith);
    }
