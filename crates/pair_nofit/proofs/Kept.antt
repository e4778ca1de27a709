-- Intervals of shifts marked in a list of words: what a step adds, and that nothing is lost. Assumes nothing.
use Rattle.list_laws.proofs.Kit.{◌∙◌, ◌≡◌, subst, false, true, ◌⊎◌, inl, inr, ⊎_elim, List, ◌*◌, ◌+◌, ◌-◌, ◌/◌, ◌<◌, ◌≤◌, ℕ}
use Rattle.list_laws.proofs.Kit.{le_antisymm, arith, get_or-replicate, length, replicate}
use Rattle.model.specs.Strip.{Strip}
use Rattle.list_laws.proofs.Numbers.{below_or}
use Rattle.bit_laws.specs.Bit.{bit_in}
use Rattle.bit_laws.proofs.Strings.{bit_none}
use Rattle.pair_overlap.specs.Meet.{strip_at, Ordered, shifted, raised, meet_in_line, lines_meet}
use Rattle.pair_overlap.specs.declared.Corner.{Corner}
use Rattle.pair_overlap.proofs.Walk.{LineMeeting, line_facts, facts_line, meet_lines, line_count, LineStrips, lines_meet_lem, RaisedMeet}
use Rattle.pair_overlap.proofs.Walk.{stretches_raised, raised_stretches}
use Rattle.pair_nofit.specs.Marks.{IntervalMarked, Grown, MeetingsKept, LineMarked, AllMarked, GapMarked, LineStart, PlacedAt, meets_at}
use Rattle.pair_nofit.specs.declared.Placed.{Placed}
use Rattle.pair_nofit.proofs.Words.{interval_grows, interval_sound, interval_marks}

-- ── the interval of two strips in one line ──

module _ (g : ℕ) (s : Strip) (u : Corner) (t : Strip) (v : Corner) (p q : Placed) (a : PlacedAt s u g p) (b : PlacedAt t v g q) where
  -- at the shifts of the interval they are at most g apart
  pub interval_meets : p.line ≡ q.line → (m : ℕ) → p.begin + 1 - q.end ≤ m → m < p.end - q.begin → meet_in_line g s u t (shifted m v) ≡ true
  interval_meets e m l h =
      facts_line g s u t (shifted m v) record { line = omega arith; low = omega arith; high = omega arith }

  -- and at no other
  pub meets_interval : (m : ℕ) → meet_in_line g s u t (shifted m v) ≡ true → (p.begin + 1 - q.end ≤ m) × (m < p.end - q.begin) × (p.line ≡ q.line)
  meets_interval m e =
      let w : LineMeeting g s u t (shifted m v) = line_facts g s u t (shifted m v) e in
      let l = w.low in
      let h = w.high in
      (omega arith, omega arith, omega (arith, w.line))

-- what holds from a number on below j, and at j, holds below j + 1
pub from_more : (P : ℕ → Type 0) (from j : ℕ) → ((l : ℕ) → from ≤ l → l < j → P l) → P j → (l : ℕ) → from ≤ l → l < j + 1 → P l
from_more P from j h p l a b = ⊎_elim (h l a) (λ (g : j ≤ l). subst P (le_antisymm g (omega arith)) p) (below_or l j)

-- ── all strips ──

module _ (g : ℕ) (es : List (List ℕ)) (u : Corner) (fs : List (List ℕ)) (v : Corner) where
  -- one step after another
  pub grown_then : (before marks after : List ℕ) → Grown g es u fs v before marks → Grown g es u fs v marks after → Grown g es u fs v before after
  grown_then before marks after f h =
      record {
        same = h.same ∙ f.same;
        grows = λ m e. h.grows m (f.grows m e);
        sound = λ m e. ⊎_elim (f.sound m) inr (h.sound m e);
      }

  -- what is kept stays kept
  pub kept_on : (marks after : List ℕ) (i l : ℕ) → Grown g es u fs v marks after → MeetingsKept g es u fs v marks i l → MeetingsKept g es u fs v after i l
  kept_on marks after i l f k m b e = f.grows m (k m (omega (arith, f.same)) e)

  module _ (marks after : List ℕ) (i j low high : ℕ) (i-below : i < length es) (j-below : j < length fs) (p q : Placed) (a : PlacedAt (strip_at es i) u g p)
      (b : PlacedAt (strip_at fs j) v g q) (line : p.line ≡ q.line) (e : low ≡ p.begin + 1 - q.end) (f : high ≡ p.end - q.begin)
      (w : IntervalMarked low high marks after) where
    -- marking the interval of two strips is sound
    pub pair_grown : Grown g es u fs v marks after
    pair_grown =
        record {
          same = w.same;
          grows = interval_grows low high marks after w;
          sound =
              λ m r.
              ⊎_elim inl
              (λ (z : (low ≤ m) × (m < high)).
              inr
              (meet_lines g es u fs (shifted m v) i j i-below j-below
              (interval_meets g (strip_at es i) u (strip_at fs j) v p q a b line m (omega (arith, z.0)) (omega (arith, z.1)))))
              (interval_sound low high marks after w m r);
        }

    -- and then their meetings are kept
    pub pair_kept : MeetingsKept g es u fs v after i j
    pair_kept m l h =
        let z = meets_interval g (strip_at es i) u (strip_at fs j) v p q a b m h in
        interval_marks low high marks after w m l (omega (arith, z.0)) (omega (arith, z.1))

  -- strips in different lines have no meetings
  pub kept_apart : (marks : List ℕ) (i l : ℕ) → ((strip_at es i).line + u.across ≡ (strip_at fs l).line + v.across → ⊥) → MeetingsKept g es u fs v marks i l
  kept_apart marks i l n m b e = absurd (n (line_facts g (strip_at es i) u (strip_at fs l) (shifted m v) e).line)

-- what one strip of the first stretch has kept with those of the second from `from` on
module _ (g : ℕ) (es : List (List ℕ)) (u : Corner) (fs : List (List ℕ)) (v : Corner) where
  -- one strip more
  pub line_more : (before marks : List ℕ) (i from j low high : ℕ) → i < length es → j < length fs → (p q : Placed) → PlacedAt (strip_at es i) u g p
      → PlacedAt (strip_at fs j) v g q → p.line ≡ q.line → low ≡ p.begin + 1 - q.end → high ≡ p.end - q.begin
      → Grown g es u fs v before marks → ((l : ℕ) → from ≤ l → l < j → MeetingsKept g es u fs v marks i l) → (after : List ℕ)
      → IntervalMarked low high marks after
      → Grown g es u fs v before after × ((l : ℕ) → from ≤ l → l < j + 1 → MeetingsKept g es u fs v after i l)
  line_more before marks i from j low high a b p q c d line e f so k after w =
      let grown : Grown g es u fs v marks after = pair_grown g es u fs v marks after i j low high a b p q c d line e f w in (
        grown_then g es u fs v before marks after so grown,
        from_more (MeetingsKept g es u fs v after i) from j (λ l m n. kept_on g es u fs v marks after i l grown (k l m n))
            (pair_kept g es u fs v marks after i j low high a b p q c d line e f w),
      )

  -- past the strips of the line there are no meetings
  pub line_past : (marks : List ℕ) (i from j : ℕ) → ((l : ℕ) → from ≤ l → l < j → MeetingsKept g es u fs v marks i l)
      → ((l : ℕ) → j ≤ l → l < length fs → (strip_at es i).line + u.across < (strip_at fs l).line + v.across)
      → (l : ℕ) → from ≤ l → l < length fs → MeetingsKept g es u fs v marks i l
  line_past marks i from j k n l a b =
      ⊎_elim (k l a) (λ (h : j ≤ l). kept_apart g es u fs v marks i l (λ e. omega (arith, n l h b))) (below_or l j)

-- lines are in order
pub line_order : (es : List (List ℕ)) → Ordered es → (i j : ℕ) → i ≤ j → j < length es → (strip_at es i).line ≤ (strip_at es j).line
line_order es o i j l m = omega (arith, o.order i j l m, o.low j m)

-- what the strips of the first stretch before i have kept, where those of the second before j lie in earlier lines than the rest
pub record AllSoFar (g : ℕ) (es : List (List ℕ)) (u : Corner) (fs : List (List ℕ)) (v : Corner) (before marks : List ℕ) (i j : ℕ) : Type 0 where
  pub second : j ≤ length fs
  pub grown : Grown g es u fs v before marks
  pub kept : (k l : ℕ) → k < i → l < length fs → MeetingsKept g es u fs v marks k l
  pub passed : (k l : ℕ) → i ≤ k → k < length es → l < j → (strip_at fs l).line + v.across < (strip_at es k).line + u.across

-- one strip more of the first stretch
pub all_more : (g : ℕ) (es : List (List ℕ)) (u : Corner) (fs : List (List ℕ)) (v : Corner) → Ordered es → (before marks after : List ℕ) (i j r : ℕ)
    → i < length es → (line : ℕ) → line ≡ (strip_at es i).line + u.across → AllSoFar g es u fs v before marks i j
    → LineStart fs v.across line j r → LineMarked g es u fs v i r marks after → AllSoFar g es u fs v before after (i + 1) r
all_more g es u fs v o before marks after i j r b line e w t m =
    let earlier : (l : ℕ) → l < r → (strip_at fs l).line + v.across < (strip_at es i).line + u.across =
    λ l a. ⊎_elim (λ (h : l < j). w.passed i l (omega arith) b h) (λ (h : j ≤ l). omega (arith, t.before l h a)) (below_or l j) in
    record {
      second = t.within;
      grown = grown_then g es u fs v before marks after w.grown m.grown;
      kept =
          λ k l a c.
          ⊎_elim (λ (h : k < i). kept_on g es u fs v marks after k l m.grown (w.kept k l h c))
          (λ (h : i ≤ k).
          let f : i ≡ k = omega arith in
          subst (λ (z : ℕ). MeetingsKept g es u fs v after z l) f
          (⊎_elim (λ (y : l < r). kept_apart g es u fs v after i l (λ q. omega (arith, earlier l y))) (λ (y : r ≤ l). m.kept l y c) (below_or l r)))
          (below_or k i);
      passed = λ k l a c d. omega (arith, earlier l d, line_order es o i k (omega arith) c);
    }

-- ── lines at most the gap apart ──

-- what is kept of the strips that are in one line with the first piece raised by g and the second by a number below k
pub record GapSoFar (g : ℕ) (es : List (List ℕ)) (u : Corner) (fs : List (List ℕ)) (v : Corner) (before marks : List ℕ) (k : ℕ) : Type 0 where
  pub same : length marks ≡ length before
  pub sound : (m : ℕ) → bit_in marks m ≡ true → (bit_in before m ≡ true) ⊎ (meets_at g es u fs v m ≡ true)
  pub kept : (q : ℕ) → q < k → (m : ℕ) → m < length marks * 64 → lines_meet g es (raised g u) fs (raised q (shifted m v)) ≡ true → bit_in marks m ≡ true

module _ (g : ℕ) (es : List (List ℕ)) (u : Corner) (fs : List (List ℕ)) (v : Corner) (before : List ℕ) where
  -- the strips in one line with the second raised by one more
  pub gap_more : (marks after : List ℕ) (k : ℕ) → k < line_count g → GapSoFar g es u fs v before marks k
      → AllMarked g es (raised g u) fs (raised k v) marks after → GapSoFar g es u fs v before after (k + 1)
  gap_more marks after k few w a =
      record {
        same = a.grown.same ∙ w.same;
        sound =
            λ m e. ⊎_elim (w.sound m) (λ h. inr (raised_stretches g es u fs (shifted m v) k few h)) (a.grown.sound m e);
        kept =
            λ q b m l e.
            ⊎_elim (λ (h : q < k). a.grown.grows m (w.kept q h m (omega (arith, a.grown.same)) e))
            (λ (h : k ≤ q).
            let same : q ≡ k = omega arith in
            let f : lines_meet g es (raised g u) fs (shifted m (raised k v)) ≡ true =
            subst (λ (z : ℕ). lines_meet g es (raised g u) fs (raised z (shifted m v)) ≡ true) same e in
            let s : LineStrips g es (raised g u) fs (shifted m (raised k v)) = lines_meet_lem g es (raised g u) fs (shifted m (raised k v)) f in
            a.kept s.i s.j s.i_below s.j_below m l s.meets)
            (below_or q k);
      }

  -- all of them
  pub gap_done : (marks : List ℕ) (k : ℕ) → line_count g ≤ k → GapSoFar g es u fs v before marks k → GapMarked g es u fs v before marks
  gap_done marks k l w =
      record {
        same = w.same;
        sound = w.sound;
        kept =
            λ m b e.
            let s : RaisedMeet g es u fs (shifted m v) = stretches_raised g es u fs (shifted m v) e in
            w.kept s.k (omega (arith, s.few)) m b s.meets;
      }

-- words of 0 mark nothing
pub noughts_clear : (n m : ℕ) → m < n * 64 → bit_in (replicate n 0) m ≡ false
noughts_clear n m l = bit_none (replicate n 0) m (get_or-replicate {A = ℕ} n (m / 64) 0 0 (omega arith))
