-- Document 02, point 2: what is claimed of the lines of two sets of units leaves no other list. Two lists with the claims have the same
-- lines, since a line of one that began or ended elsewhere in the other could be joined there; and both stand in the same order.
-- Assumes nothing.
use Rattle.list_laws.proofs.Kit.{◌≡◌, ap, subst, sym, ◌⊎◌, inl, inr, ⊎_elim, List, Memᴰ, [], ◌∷◌, ◌-◌, ◌<◌, ◌≤◌, suc, ℕ, arith, get_or, length}
use Rattle.list_laws.proofs.Kit.{eqb, eqb-false, eqb-true, false, true, le_refl, refl}
use Rattle.list_laws.proofs.Lists.{member_at, At, member_place}
use Rattle.list_laws.proofs.Numbers.{below_or}
use Rattle.list_laws.proofs.Tests.{decided}
use Rattle.strip_laws.specs.Lists.{Pairwise, none, more}
use Rattle.strip_laws.proofs.Lists.{pairwise_unique}
use Rattle.model.specs.Piece.{Shape, pixel, point}
use Rattle.model.specs.Buffer.{direction_number}
use Rattle.model.specs.Cut.{CutLine}
use Rattle.model.specs.declared.Direction.{Direction}
use Rattle.cut_laws.specs.Lines.{cut_line_at, no_line, GoesOver, CutOnce, LineBefore, LinesExactly}

-- ── the order ──

-- one line stands before another, and neither is empty
record Stands (l m : CutLine) : Type 0 where
  before : LineBefore l m
  some : l.first < l.last
  some_later : m.first < m.last

-- not both ways
not_back : (l m : CutLine) → LineBefore l m → LineBefore m l → l.first < l.last → m.first < m.last → ⊥
not_back l m (inl h) (inl k) a b = omega arith
not_back l m (inl h) (inr (e, k)) a b = let d : direction_number m.direction ≡ direction_number l.direction = ap direction_number e in omega arith
not_back l m (inr (e, h)) (inl k) a b = let d : direction_number l.direction ≡ direction_number m.direction = ap direction_number e in omega arith
not_back l m (inr (e, inl h)) (inr (f, inl k)) a b = omega arith
not_back l m (inr (e, inl h)) (inr (f, inr (g, k))) a b = omega arith
not_back l m (inr (e, inr (g, h))) (inr (f, inl k)) a b = omega arith
not_back l m (inr (e, inr (g, h))) (inr (f, inr (i, k))) a b = omega arith

-- an order by places is one by elements
by_places : {A : Type 0} {R : A → A → Type 0} (l : List A) (z : A) → ((i j : ℕ) → i < j → j < length l → R (get_or l i z) (get_or l j z)) → Pairwise R l
by_places [] z h = none
by_places {A} {R} (a ∷ l) z h =
    more
    (λ b m.
    let w : At l z b = member_place l z b m in
    let below = w.there in
    subst (R a) w.is (h 0 (suc w.number) (omega arith) (omega arith)))
    (by_places l z (λ i j b k. h (suc i) (suc j) (omega arith) (omega arith)))

module _ (units : Direction → Shape) where
  -- the lines of a list with the claims stand in order
  in_order : (ls : List CutLine) → LinesExactly units ls → Pairwise Stands ls
  in_order ls c =
      by_places ls no_line
      (λ i j h k. record { before = c.ordered i j h k; some = c.some i (omega arith); some_later = c.some j k })

  -- a line that a unit of the set touches goes over it
  touching : (ls : List CutLine) → LinesExactly units ls → (k : ℕ) → k < length ls → (a : ℕ)
      → pixel (units (cut_line_at ls k).direction) (point (cut_line_at ls k).direction a (cut_line_at ls k).line) ≡ true → (cut_line_at ls k).first ≤ suc a
      → a ≤ (cut_line_at ls k).last → ((cut_line_at ls k).first ≤ a) × (a < (cut_line_at ls k).last)
  touching ls c k h a unit low high =
      let l : CutLine = cut_line_at ls k in
      let w : CutOnce ls l.direction a l.line = c.every l.direction a l.line unit in
      let over : GoesOver (cut_line_at ls w.number) l.direction a l.line = w.over in
      let from = over.low in
      let to = over.high in
      ⊎_elim
      (λ (e : eqb w.number k ≡ true).
      let same : w.number ≡ k = eqb-true w.number k e in
      let g : GoesOver l l.direction a l.line = subst (λ (n : ℕ). GoesOver (cut_line_at ls n) l.direction a l.line) same over in (g.low, g.high))
      (λ (e : eqb w.number k ≡ false). absurd
      (c.apart w.number k w.there h (eqb-false w.number k e)
      record { direction = over.direction; line = over.line; not_after = omega arith; not_before = omega arith }))
      (decided (eqb w.number k))

  module _ (ls ms : List CutLine) (c : LinesExactly units ls) (o : LinesExactly units ms) (k : ℕ) (h : k < length ls) where
    -- the line, and what it goes over
    abbrev l : CutLine
    l = cut_line_at ls k

    over_line : (a : ℕ) → l.first ≤ a → a < l.last → pixel (units l.direction) (point l.direction a l.line) ≡ true
    over_line a low high = c.nothing_else k h l.direction a l.line record { direction = refl; line = refl; low = low; high = high }

    -- the line of the other list over its first unit
    found : CutOnce ms l.direction l.first l.line
    found = o.every l.direction l.first l.line (over_line l.first (le_refl l.first) (c.some k h))

    abbrev m : CutLine
    m = cut_line_at ms found.number

    -- what that line goes over
    over_other : (a : ℕ) → m.first ≤ a → a < m.last → pixel (units l.direction) (point l.direction a l.line) ≡ true
    over_other a low high =
        o.nothing_else found.number found.there l.direction a l.line
        record { direction = found.over.direction; line = found.over.line; low = low; high = high }

    -- the same units as the other line's own
    own_other : (a : ℕ) → l.first ≤ a → a < l.last → pixel (units m.direction) (point m.direction a m.line) ≡ true
    own_other a low high =
        rw (found.over.direction, found.over.line) (over_line a low high)

    -- they begin together
    same_first : l.first ≡ m.first
    same_first =
        let some = c.some k h in
        let from = found.over.low in
        let to = found.over.high in
        ⊎_elim
        (λ (b : m.first < l.first).
        let t = touching ls c k h (l.first - 1) (over_other (l.first - 1) (omega arith) (omega arith)) (omega arith) (omega arith) in
        let u = t.0 in absurd (omega arith))
        (λ (b : l.first ≤ m.first). let e : l.first ≡ m.first = omega arith in e)
        (below_or m.first l.first)

    -- and end together
    same_last : l.last ≡ m.last
    same_last =
        let some = c.some k h in
        let from = found.over.low in
        let to = found.over.high in
        ⊎_elim
        (λ (b : l.last < m.last).
        let t = touching ls c k h l.last (over_other l.last (omega arith) b) (omega arith) (omega arith) in
        let u = t.1 in absurd (omega arith))
        (λ (b : m.last ≤ l.last).
        ⊎_elim
        (λ (d : m.last < l.last).
        let t = touching ms o found.number found.there m.last (own_other m.last (omega arith) d) (omega arith) (omega arith) in
        let u = t.1 in absurd (omega arith))
        (λ (d : l.last ≤ m.last). let e : l.last ≡ m.last = omega arith in e)
        (below_or m.last l.last))
        (below_or l.last m.last)

    -- so the other list has the line
    listed_too : Memᴰ l ms
    listed_too =
        let same : m ≡ l = λ i. record { direction = found.over.direction i; line = found.over.line i; first = sym same_first i; last = sym same_last i } in
        subst (λ (n : CutLine). Memᴰ n ms) same (member_at ms found.number no_line found.there)

  -- every line of the one list is in the other
  all_listed : (ls ms : List CutLine) → LinesExactly units ls → LinesExactly units ms → (n : CutLine) → Memᴰ n ls → Memᴰ n ms
  all_listed ls ms c o n b =
      let w : At ls no_line n = member_place ls no_line n b in
      subst (λ (q : CutLine). Memᴰ q ms) w.is (listed_too ls ms c o w.number w.there)

  -- there is one list with the claims
  pub lines_unique : (ls ms : List CutLine) → LinesExactly units ls → LinesExactly units ms → ls ≡ ms
  lines_unique ls ms c o =
      pairwise_unique (λ a b p q. not_back a b p.before q.before p.some p.some_later) (in_order ls c) (in_order ms o) (all_listed ls ms c o)
      (all_listed ms ls o c)
