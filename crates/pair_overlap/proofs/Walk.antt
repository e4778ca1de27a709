-- Two stretches of strips walked together. In the order by line, then along, a placed strip is an interval of numbers, and two strips in one line
-- are at most a gap apart exactly when their intervals, each longer by the gap, cross, since coordinates are smaller than the distance of two
-- lines. The walk passes the interval that ends first: no later interval of the other stretch begins before it does. Strips in different lines,
-- at most the gap apart, are in one line once the first piece is raised by the gap and the second by one of 0, 1, .. twice the gap lines.
-- Assumes nothing.
use Rattle.list_laws.proofs.Kit.{◌∙◌, ◌≡◌, ap, subst, sym, ◌&&◌, false, not, true, ◌⊎◌, inl, inr, ⊎_elim, List, ◌+◌, ◌-◌, ◌*◌, ◌<◌, ◌≤◌, min, ℕ, arith}
use Rattle.list_laws.proofs.Kit.{by_contra, eq-or-lt_of_le, eqb, leb, ltb, length, eq-eqb, eqb-true, le-leb, leb-true, lt-ltb, ltb-true}
use Rattle.model.specs.Piece.{gap_bound}
use Rattle.model.specs.Strip.{Strip}
use Rattle.list_laws.proofs.Firsts.{first_found, first_unique, first_cut}
use Rattle.list_laws.proofs.Numbers.{below_or}
use Rattle.list_laws.proofs.Tests.{and_left, and_right, and_both, fails, clash}
use Rattle.list_laws.proofs.Bounded.{any_witness, any_from}
use Rattle.pair_overlap.specs.Meet.{strip_at, strip_begin, Ordered, Crossing, CrossingsPassed, Skipped, shift_bound, base_of, shifted, raised, meet}
use Rattle.pair_overlap.specs.Meet.{meet_in_line, lines_meet, stretches_meet, clear_at, clear_below, NextLine}
use Rattle.pair_overlap.specs.declared.Corner.{Corner}

-- ── two strips ──

-- what it is for two placed strips to hold pixels at most g apart
pub record Meeting (g : ℕ) (s : Strip) (u : Corner) (t : Strip) (v : Corner) : Type 0 where
  pub above : s.line + u.across ≤ t.line + v.across + g
  pub below : t.line + v.across ≤ s.line + u.across + g
  pub low : t.first + v.along < s.first + s.count + g + u.along
  pub high : s.first + u.along < t.first + t.count + g + v.along

-- and to do so in one line
pub record LineMeeting (g : ℕ) (s : Strip) (u : Corner) (t : Strip) (v : Corner) : Type 0 where
  pub line : s.line + u.across ≡ t.line + v.across
  pub low : t.first + v.along < s.first + s.count + g + u.along
  pub high : s.first + u.along < t.first + t.count + g + v.along

module _ (g : ℕ) (s : Strip) (u : Corner) (t : Strip) (v : Corner) where
  pub meet_facts : meet g s u t v ≡ true → Meeting g s u t v
  meet_facts e =
      let above = leb (s.line + u.across) (t.line + v.across + g) in
      let below = leb (t.line + v.across) (s.line + u.across + g) in
      let low = ltb (t.first + v.along) (s.first + s.count + g + u.along) in
      let high = ltb (s.first + u.along) (t.first + t.count + g + v.along) in
      let lines = and_left (above && below) (low && high) e in
      let reach = and_right (above && below) (low && high) e in
      record {
        above = leb-true _ _ (and_left above below lines);
        below = leb-true _ _ (and_right above below lines);
        low = ltb-true _ _ (and_left low high reach);
        high = ltb-true _ _ (and_right low high reach);
      }

  pub facts_meet : Meeting g s u t v → meet g s u t v ≡ true
  facts_meet w =
      and_both (and_both (le-leb _ _ w.above) (le-leb _ _ w.below)) (and_both (lt-ltb _ _ w.low) (lt-ltb _ _ w.high))

  pub line_facts : meet_in_line g s u t v ≡ true → LineMeeting g s u t v
  line_facts e =
      let on = eqb (s.line + u.across) (t.line + v.across) in
      let low = ltb (t.first + v.along) (s.first + s.count + g + u.along) in
      let high = ltb (s.first + u.along) (t.first + t.count + g + v.along) in
      let reach = and_right on (low && high) e in
      record {
        line = eqb-true _ _ (and_left on (low && high) e);
        low = ltb-true _ _ (and_left low high reach);
        high = ltb-true _ _ (and_right low high reach);
      }

  pub facts_line : LineMeeting g s u t v → meet_in_line g s u t v ≡ true
  facts_line w = and_both (eq-eqb _ _ w.line) (and_both (lt-ltb _ _ w.low) (lt-ltb _ _ w.high))

  -- strips in one line that are at most g apart cross
  meet_crosses : meet_in_line g s u t v ≡ true → Crossing g s (base_of u) t (base_of v)
  meet_crosses e =
      let w : LineMeeting g s u t v = line_facts e in
      let f = w.line in
      record { first_before = omega (arith, w.high); second_before = omega (arith, w.low) }

  -- strips that cross are in one line and at most g apart, where no coordinate reaches the next line
  crossing_meets : s.first + s.count + g + u.along < 65536 → t.first + t.count + g + v.along < 65536
      → Crossing g s (base_of u) t (base_of v) → meet_in_line g s u t v ≡ true
  crossing_meets l m c =
      let f : s.line + u.across ≤ t.line + v.across = omega (arith, c.first_before) in
      let h : t.line + v.across ≤ s.line + u.across = omega (arith, c.second_before) in
      let e : s.line + u.across ≡ t.line + v.across = omega arith in
      facts_line record { line = e; low = omega (arith, c.second_before); high = omega (arith, c.first_before) }

-- ── two stretches ──

-- two strips of the stretches that are at most g apart
pub record StripsMeet (g : ℕ) (es : List (List ℕ)) (u : Corner) (fs : List (List ℕ)) (v : Corner) : Type 0 where
  pub i : ℕ
  pub j : ℕ
  pub i_below : i < length es
  pub j_below : j < length fs
  pub meets : meet g (strip_at es i) u (strip_at fs j) v ≡ true

-- and that are so in one line
pub record LineStrips (g : ℕ) (es : List (List ℕ)) (u : Corner) (fs : List (List ℕ)) (v : Corner) : Type 0 where
  pub i : ℕ
  pub j : ℕ
  pub i_below : i < length es
  pub j_below : j < length fs
  pub meets : meet_in_line g (strip_at es i) u (strip_at fs j) v ≡ true

module _ (g : ℕ) (es : List (List ℕ)) (u : Corner) (fs : List (List ℕ)) (v : Corner) where
  -- stretches with two such strips meet
  pub meet_stretches : (i j : ℕ) → i < length es → j < length fs → meet g (strip_at es i) u (strip_at fs j) v ≡ true → stretches_meet g es u fs v ≡ true
  unfolding stretches_meet
  meet_stretches i j l m e = any_from (length es) i _ l (any_from (length fs) j _ m e)

  -- stretches that meet have two such strips
  pub stretches_meet_lem : stretches_meet g es u fs v ≡ true → StripsMeet g es u fs v
  unfolding stretches_meet
  stretches_meet_lem e =
      let a = any_witness (length es) _ e in
      let b = any_witness (length fs) _ a.passing in
      record { i = a.number; j = b.number; i_below = a.below; j_below = b.below; meets = b.passing }

  pub meet_lines : (i j : ℕ) → i < length es → j < length fs → meet_in_line g (strip_at es i) u (strip_at fs j) v ≡ true → lines_meet g es u fs v ≡ true
  unfolding lines_meet
  meet_lines i j l m e = any_from (length es) i _ l (any_from (length fs) j _ m e)

  pub lines_meet_lem : lines_meet g es u fs v ≡ true → LineStrips g es u fs v
  unfolding lines_meet
  lines_meet_lem e =
      let a = any_witness (length es) _ e in
      let b = any_witness (length fs) _ a.passing in
      record { i = a.number; j = b.number; i_below = a.below; j_below = b.below; meets = b.passing }

-- ── lines at most g apart ──

-- how many ways there are to raise the second piece
abbrev pub line_count : ℕ → ℕ
line_count g = 2 * g + 1

-- two strips at most g apart are so in one line when the second is raised by k and the first by g
pub record RaisedMeet (g : ℕ) (es : List (List ℕ)) (u : Corner) (fs : List (List ℕ)) (v : Corner) : Type 0 where
  pub k : ℕ
  pub few : k < line_count g
  pub meets : lines_meet g es (raised g u) fs (raised k v) ≡ true

module _ (g : ℕ) (es : List (List ℕ)) (u : Corner) (fs : List (List ℕ)) (v : Corner) where
  pub stretches_raised : stretches_meet g es u fs v ≡ true → RaisedMeet g es u fs v
  stretches_raised e =
      let m : StripsMeet g es u fs v = stretches_meet_lem g es u fs v e in
      let w : Meeting g (strip_at es m.i) u (strip_at fs m.j) v = meet_facts g _ u _ v m.meets in
      let above = w.above in
      let below = w.below in
      let k : ℕ = (strip_at es m.i).line + u.across + g - ((strip_at fs m.j).line + v.across) in
      record {
        k = k;
        few = omega arith;
        meets =
            meet_lines g es (raised g u) fs (raised k v) m.i m.j m.i_below m.j_below
            (facts_line g _ (raised g u) _ (raised k v) record { line = omega arith; low = w.low; high = w.high });
      }

  pub raised_stretches : (k : ℕ) → k < line_count g → lines_meet g es (raised g u) fs (raised k v) ≡ true → stretches_meet g es u fs v ≡ true
  raised_stretches k l e =
      let m : LineStrips g es (raised g u) fs (raised k v) = lines_meet_lem g es (raised g u) fs (raised k v) e in
      let w : LineMeeting g (strip_at es m.i) (raised g u) (strip_at fs m.j) (raised k v) = line_facts g _ (raised g u) _ (raised k v) m.meets in
      let line = w.line in
      meet_stretches g es u fs v m.i m.j m.i_below m.j_below
      (facts_meet g _ u _ v record { above = omega arith; below = omega arith; low = w.low; high = w.high })

  -- where none of the raised ones meet in a line, the stretches do not meet
  pub none_raised : ((k : ℕ) → k < line_count g → lines_meet g es (raised g u) fs (raised k v) ≡ false) → stretches_meet g es u fs v ≡ false
  none_raised h =
      fails (stretches_meet g es u fs v)
      (λ e. let w : RaisedMeet g es u fs v = stretches_raised e in clash w.meets (h w.k w.few))

-- ── a walk ──

-- two strips of the stretches that cross
pub record CrossingFound (g : ℕ) (es : List (List ℕ)) (x : ℕ) (fs : List (List ℕ)) (y : ℕ) : Type 0 where
  pub k : ℕ
  pub l : ℕ
  pub k_below : k < length es
  pub l_below : l < length fs
  pub first : (strip_at es k).first + (strip_at es k).count < 511
  pub second : (strip_at fs l).first + (strip_at fs l).count < 511
  pub crossing : Crossing g (strip_at es k) x (strip_at fs l) y

-- stretches with two strips that cross meet in a line
pub found_meets : (g : ℕ) (es : List (List ℕ)) (u : Corner) (fs : List (List ℕ)) (v : Corner) (x y : ℕ) → x ≡ base_of u → y ≡ base_of v
    → u.along < 65000 → v.along < 65000 → g ≤ gap_bound → CrossingFound g es x fs y → lines_meet g es u fs v ≡ true
found_meets g es u fs v x y e f l m few w =
    meet_lines g es u fs v w.k w.l w.k_below w.l_below
    (crossing_meets g (strip_at es w.k) u (strip_at fs w.l) v (omega (arith, w.first)) (omega (arith, w.second))
    (record { first_before = omega (arith, w.crossing.first_before); second_before = omega (arith, w.crossing.second_before) }))

module _ (g : ℕ) (es : List (List ℕ)) (x : ℕ) (fs : List (List ℕ)) (y : ℕ) (i j : ℕ) where
  -- the first stretch's strip ends before the other's begins: it is passed
  pub pass_first : Ordered fs → CrossingsPassed g es x fs y i j → strip_begin (strip_at es i) + x + (strip_at es i).count + g ≤ strip_begin (strip_at fs j) + y
      → CrossingsPassed g es x fs y (i + 1) j
  pass_first o p h k l m n c =
      let q = p k l m n c in (
        ⊎_elim
            (λ (e : i ≡ k).
            let d : Crossing g (strip_at es i) x (strip_at fs l) y = subst (λ (z : ℕ). Crossing g (strip_at es z) x (strip_at fs l) y) (sym e) c in
            absurd (omega (arith, o.order j l q.1 n, d.second_before)))
            (λ (lt : i < k). omega arith)
            (eq-or-lt_of_le q.0),
        q.1,
      )

  -- and the other way round
  pub pass_second : Ordered es → CrossingsPassed g es x fs y i j → strip_begin (strip_at fs j) + y + (strip_at fs j).count + g ≤ strip_begin (strip_at es i) + x
      → CrossingsPassed g es x fs y i (j + 1)
  pass_second o p h k l m n c =
      let q = p k l m n c in (
        q.0,
        ⊎_elim
            (λ (e : j ≡ l).
            let d : Crossing g (strip_at es k) x (strip_at fs j) y = subst (λ (z : ℕ). Crossing g (strip_at es k) x (strip_at fs z) y) (sym e) c in
            absurd (omega (arith, o.order i k q.0 m, d.first_before)))
            (λ (lt : j < l). omega arith)
            (eq-or-lt_of_le q.1),
      )

-- a strip that begins 1,288 before a place ends before it also when it is made longer and shifted, and so does every earlier one
pub skip_to : (es : List (List ℕ)) (x place m n : ℕ) → Ordered es → m + 1 ≡ n → n ≤ length es → strip_begin (strip_at es m) + x + 1288 ≤ place
    → Skipped es x place n
skip_to es x place m n o e l h =
    record { within = l; before = λ k b. omega (arith, o.order k m (omega arith) (omega arith), o.short k (omega arith)) }

module _ (g : ℕ) (few : g ≤ gap_bound) (es : List (List ℕ)) (x : ℕ) (fs : List (List ℕ)) (y : ℕ) (i j : ℕ) where
  -- strips of the first stretch that end before the second begins are passed, also when the second is shifted on
  pub first_onwards : Ordered fs → Skipped es x (strip_begin (strip_at fs 0) + y) i → (m : ℕ) → CrossingsPassed g es x fs (y + m) i 0
  first_onwards o s m k l a b c =
      (by_contra i k (λ (d : k < i). omega (arith, s.before k d, o.order 0 l (omega arith) b, c.second_before)), omega arith)

  -- and then strips of the second that end before the rest of the first begins
  pub second_onwards : Ordered es → Skipped fs y (strip_begin (strip_at es i) + x) j → (m : ℕ) → m ≤ shift_bound → CrossingsPassed g es x fs (y + m) i 0
      → CrossingsPassed g es x fs (y + m) i j
  second_onwards o s m h p k l a b c =
      let q = p k l a b c in
      (q.0, by_contra j l (λ (d : l < j). omega (arith, s.before l d, o.order i k q.0 a, c.first_before)))

-- where one stretch is passed whole, they do not meet in a line
pub passed_free : (g : ℕ) (es : List (List ℕ)) (u : Corner) (fs : List (List ℕ)) (v : Corner) (x y : ℕ) → x ≡ base_of u → y ≡ base_of v
    → (i j : ℕ) → (length es ≤ i) ⊎ (length fs ≤ j) → CrossingsPassed g es x fs y i j → lines_meet g es u fs v ≡ false
passed_free g es u fs v x y e f i j h p =
    fails (lines_meet g es u fs v)
    (λ yes.
    let m : LineStrips g es u fs v = lines_meet_lem g es u fs v yes in
    let w = meet_crosses g (strip_at es m.i) u (strip_at fs m.j) v m.meets in
    let q =
    p m.i m.j m.i_below m.j_below
    (record { first_before = omega (arith, w.first_before); second_before = omega (arith, w.second_before) }) in
    ⊎_elim (λ (z : length es ≤ i). omega (arith, m.i_below)) (λ (z : length fs ≤ j). omega (arith, m.j_below)) h)

-- two strips that cross go on crossing until the second is shifted to where the first ends
pub pushed : (g : ℕ) (es : List (List ℕ)) (x : ℕ) (fs : List (List ℕ)) (y t i j : ℕ) → i < length es → j < length fs
    → (strip_at es i).first + (strip_at es i).count < 511 → (strip_at fs j).first + (strip_at fs j).count < 511
    → Crossing g (strip_at es i) x (strip_at fs j) (y + t) → ((m : ℕ) → m < t → CrossingFound g es x fs (y + m))
    → (m : ℕ) → strip_begin (strip_at fs j) + y + m < strip_begin (strip_at es i) + x + (strip_at es i).count + g → CrossingFound g es x fs (y + m)
pushed g es x fs y t i j a b p q c found m h =
    ⊎_elim (λ l. found m l)
    (λ (l : t ≤ m).
    record {
      k = i;
      l = j;
      k_below = a;
      l_below = b;
      first = p;
      second = q;
      crossing = record { first_before = omega (arith, c.first_before); second_before = omega arith };
    })
    (below_or m t)

-- ── shifts along the strips ──

-- a shift after a shift is their sum, in whatever line
shifted_more : (r q k : ℕ) (v : Corner) → shifted q (raised k (shifted r v)) ≡ raised k (shifted (r + q) v)
shifted_more r q k v = let e : v.along + r + q ≡ v.along + (r + q) = omega arith in λ i. record { along = e i; across = v.across + k }

module _ (g : ℕ) (es : List (List ℕ)) (u : Corner) (fs : List (List ℕ)) (v : Corner) where
  -- raised by k, the second meets no strip in its line at any shift from r up to r + room
  abbrev pub LineClear : ℕ → ℕ → ℕ → Type 0
  LineClear r room k = (q : ℕ) → q ≤ room → lines_meet g es (raised g u) fs (raised k (shifted (r + q) v)) ≡ false

  -- what a walk finds clear
  pub line_clear : (r room k : ℕ) → ((q : ℕ) → q ≤ room → lines_meet g es (raised g u) fs (shifted q (raised k (shifted r v))) ≡ false)
      → LineClear r room k
  line_clear r room k h q l = ap (lines_meet g es (raised g u) fs) (sym (shifted_more r q k v)) ∙ h q l

  -- what is covered at every shift below r, and from there in one of the lines at every further shift below q, is so at every shift below r + q
  pub covered_more : (r q k : ℕ) → k < line_count g → ((m : ℕ) → m < r → stretches_meet g es u fs (shifted m v) ≡ true)
      → ((m : ℕ) → m < q → lines_meet g es (raised g u) fs (shifted m (raised k (shifted r v))) ≡ true)
      → (m : ℕ) → m < r + q → stretches_meet g es u fs (shifted m v) ≡ true
  covered_more r q k few a b m l =
      ⊎_elim (a m)
      (λ (h : r ≤ m).
      let e : r + (m - r) ≡ m = omega arith in
      raised_stretches g es u fs (shifted m v) k few
      (ap (λ (z : ℕ). lines_meet g es (raised g u) fs (raised k (shifted z v))) (sym e)
      ∙ ap (lines_meet g es (raised g u) fs) (sym (shifted_more r (m - r) k v))
      ∙ b (m - r) (omega arith)))
      (below_or m r)

  -- what is clear in every line from r on is free there
  pub free_more : (r room : ℕ) → ((k : ℕ) → k < line_count g → LineClear r room k)
      → (m : ℕ) → r ≤ m → m < r + room + 1 → stretches_meet g es u fs (shifted m v) ≡ false
  free_more r room h m l few =
      let e : r + (m - r) ≡ m = omega arith in
      none_raised g es u fs (shifted m v)
      (λ k b. ap (λ (z : ℕ). lines_meet g es (raised g u) fs (raised k (shifted z v))) (sym e) ∙ h k b (m - r) (omega arith))

  -- covered below r and free at r: r is the least shift
  pub clear_first : (bound r : ℕ) → r ≤ bound → ((k : ℕ) → k < r → stretches_meet g es u fs (shifted k v) ≡ true)
      → stretches_meet g es u fs (shifted r v) ≡ false → r ≡ clear_below g es u fs v bound
  unfolding clear_below
  clear_first bound r l a e =
      first_unique (clear_at g es u fs v) bound r record { within = l; before = λ k m. ap not (a k m); passing = λ m. ap not e }

  -- covered below the bound: the bound
  pub clear_none : (bound r : ℕ) → r ≡ bound → ((k : ℕ) → k < r → stretches_meet g es u fs (shifted k v) ≡ true)
      → bound ≡ clear_below g es u fs v bound
  unfolding clear_below
  clear_none bound r e a =
      first_unique (clear_at g es u fs v) bound bound
      record { within = omega arith; before = λ k m. ap not (a k (omega arith)); passing = λ m. absurd (omega arith) }

  -- the least shift is at most the bound
  pub clear_within : (bound : ℕ) → clear_below g es u fs v bound ≤ bound
  unfolding clear_below
  clear_within bound = (first_found (clear_at g es u fs v) bound).within

  -- with a lesser bound it is cut off there
  pub clear_cut : (bound p : ℕ) → p ≤ bound → clear_below g es u fs v p ≡ min p (clear_below g es u fs v bound)
  unfolding clear_below
  clear_cut bound p l = first_cut (clear_at g es u fs v) bound p l

-- ── the lines in turn ──

-- of the lines, those from k on, `left` of them and after the last the first again, are still to be walked
pub record LinesLeft (lines k left : ℕ) (clear : ℕ → Type 0) : Type 0 where
  pub at : k < lines
  pub some : 0 < left
  pub few : left ≤ lines
  pub walked : (m : ℕ) → m < lines → (m < k) ⊎ (k + left ≤ m) → k + left ≤ m + lines → clear m

-- at first all of them, from whichever on
pub lines_begun : (lines k : ℕ) (clear : ℕ → Type 0) → k < lines → LinesLeft lines k lines clear
lines_begun lines k clear l =
    record {
      at = l;
      some = omega arith;
      few = omega arith;
      walked = λ m b c h. ⊎_elim (λ (z : m < k). absurd (omega arith)) (λ (z : k + lines ≤ m). absurd (omega arith)) c;
    }

module _ (lines k left : ℕ) (clear clear' : ℕ → Type 0) (w : LinesLeft lines k left clear) (weaker : (m : ℕ) → clear m → clear' m) (here : clear' k) where
  -- a line, given what is known of it where it is not the one that was just walked
  other_line : (m : ℕ) → m < lines → (m < k → k + left ≤ m + lines) → (k < m → k + left ≤ m) → clear' m
  other_line m l a b =
      let at = w.at in
      ⊎_elim (λ (z : m < k). weaker m (w.walked m l (inl z) (a z)))
      (λ (z : k ≤ m).
      ⊎_elim (λ (e : k ≡ m). subst clear' e here) (λ (y : k < m). let n = b y in weaker m (w.walked m l (inr n) (omega arith))) (eq-or-lt_of_le z))
      (below_or m k)

  -- one more is walked
  pub lines_next : (next : ℕ) → NextLine k lines next → 1 < left → LinesLeft lines next (left - 1) clear'
  lines_next next n more =
      let few = w.few in
      let at = w.at in
      record {
        at = ⊎_elim (λ z. omega (arith, z.0, z.1)) (λ z. omega (arith, z.1)) n;
        some = omega arith;
        few = omega arith;
        walked =
            λ m l c h.
            ⊎_elim
            (λ z.
            let e = z.1 in
            ⊎_elim (λ (y : m < next). other_line m l (λ x. omega arith) (λ x. absurd (omega arith)))
            (λ (y : next + (left - 1) ≤ m). other_line m l (λ x. absurd (omega arith)) (λ x. omega arith)) c)
            (λ z.
            let e = z.1 in
            let last = z.0 in
            ⊎_elim (λ (y : m < next). absurd (omega arith))
            (λ (y : next + (left - 1) ≤ m). other_line m l (λ x. omega arith) (λ x. absurd (omega arith))) c)
            n;
      }

  -- the last one is walked
  pub lines_done : left ≡ 1 → (m : ℕ) → m < lines → clear' m
  lines_done e m l = let at = w.at in other_line m l (λ x. omega arith) (λ x. omega arith)
