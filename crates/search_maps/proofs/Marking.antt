-- The marks of a piece's strips, how they grow, and their levels. Assumes nothing.
use Rattle.list_laws.proofs.Kit.{◌∙◌, ◌≡◌, ap, refl, subst₂, sym, true, ◌⊎◌, inl, inr, List, ◌*◌, ◌+◌, ◌-◌, ◌/◌, ◌<◌, ◌≤◌, ℕ, arith, length}
use Rattle.list_laws.proofs.Kit.{mul-le-mul_right, add-zero}
use Rattle.list_laws.proofs.Numbers.{below_or}
use Rattle.list_laws.proofs.Tests.{clash}
use Rattle.pair_overlap.specs.Meet.{strip_at}
use Rattle.bit_laws.specs.Bit.{bit_in}
use Rattle.bit_laws.proofs.Strings.{bit_none, bit_past}
use Rattle.search_words.specs.Words.{Cleared}
use Rattle.search_levels.specs.Levels.{level_of, LevelRoom, Levels, Grown, Limited}
use Rattle.search_levels.proofs.Growing.{level_first, level_length, grown_levels}
use Rattle.search_marks.specs.Marks.{Made}
use Rattle.search_marks.proofs.Sums.{Sum, made_only, made_set}
use Rattle.search_maps.specs.declared.Sides.{Sides}
use Rattle.search_maps.specs.Map.{row_width, mark_words, SidesFit, MovedIn}
use Rattle.search_maps.specs.Making.{Points, StripPoint, GrownPoint, MarkAt, MarksOf, MarksMade, MarksGrown, LevelsFor, LevelsMade}

-- strips added to one mark in cleared words are the marks of the strips
pub marks_made : (points : List ℕ) → Points points → (es : List (List ℕ)) (w size : ℕ) (xs ys zs : List ℕ) → Cleared size xs ys
    → Made ys (level_of points 5 0) es w 0 (length es) zs → MarksMade (StripPoint es) w size xs zs
marks_made points one es w size xs ys zs k m =
    record {
      same = m.same ∙ k.same;
      set = λ a c h l.
          let s = strip_at es h.number in
          let lo = h.low in
          let hi = h.high in
          let e : s.line * w ≡ c * w = ap (λ (n : ℕ). n * w) h.line in
          let f : (s.line + 0) * w ≡ s.line * w = ap (λ (n : ℕ). n * w) (add-zero s.line) in
          made_set ys _ es w 0 (length es) zs m (c * w + a)
          (record { i = h.number; t = a - s.first; q = 0; i_in = h.below; t_in = omega arith; marked = one.set; sum = omega arith });
      only = λ p l b. go p l (made_only ys _ es w 0 (length es) zs m p b);
    }
  where
    go : (p : ℕ) → p < size * 64 → (bit_in ys p ≡ true) ⊎ Sum es (length es) (level_of points 5 0) w 0 p → MarkAt (StripPoint es) w p
    go p l (inl b) = absurd (clash b (bit_none ys p (k.zero (p / 64) (omega arith))))
    go p l (inr h) =
        let s = strip_at es h.i in
        let z : h.q ≡ 0 = one.only h.q h.marked in
        let t = h.t_in in
        let e = h.sum in
        let f : (s.line + 0) * w ≡ s.line * w = ap (λ (n : ℕ). n * w) (add-zero s.line) in
        record {
          a = s.first + h.t;
          c = s.line;
          point = record { number = h.i; below = h.i_in; line = refl; low = omega arith; high = omega arith };
          place = omega arith;
        }

-- ── marks that grow ──

-- the words are as many as they were
pub grown_length : (w size extra : ℕ) (ms gs : List ℕ) → MarksGrown w size extra ms gs → length gs ≡ length ms
grown_length w size extra ms gs g = g.up.same ∙ g.right.same

-- marks of strips, moved right and up, are the marks of the grown points
pub marks_grown : (es : List (List ℕ)) (w size extra : ℕ) (xs ms gs : List ℕ) → MarksMade (StripPoint es) w size xs ms → MarksGrown w size extra ms gs
    → MarksMade (GrownPoint es extra) w size xs gs
marks_grown es w size extra xs ms gs m g =
    record {
      same = grown_length w size extra ms gs g ∙ m.same;
      set = λ a c h l.
          let x = h.along in
          let y = h.across in
          let e : c * w ≡ h.from_across * w + h.by_across * w = ap (λ (n : ℕ). n * w) y ∙ omega arith in
          let q : ℕ = h.from_across * w + h.from_along in
          let marked = m.set h.from_along h.from_across h.from (omega arith) in
          let f = h.few_along in
          let k = h.few_across in
          let right = g.right.set (q + h.by_along) (omega arith)
          (record { t = h.by_along; q = q; few = omega arith; marked = marked; place = omega arith }) in
          g.up.set (c * w + a) l (record { t = h.by_across; q = q + h.by_along; few = omega arith; marked = right; place = omega arith });
      only = λ p l e.
          let u = g.up.only p l e in
          let pu = u.place in
          let fu = u.few in
          let r = g.right.only u.q (omega arith) u.marked in
          let pr = r.place in
          let fr = r.few in
          let k = m.only r.q (omega arith) r.marked in
          let pk = k.place in
          record {
            a = k.a + r.t;
            c = k.c + u.t;
            point = record {
              from_along = k.a;
              from_across = k.c;
              by_along = r.t;
              by_across = u.t;
              from = k.point;
              few_along = omega arith;
              few_across = omega arith;
              along = refl;
              across = refl;
            };
            place = omega arith;
          };
    }

-- a grown point of strips that lie in the box before it grows lies in the grown box
pub grown_in_lem : (z : Sides) (extra : ℕ) (es : List (List ℕ)) → MovedIn z extra es → (a c : ℕ) → GrownPoint es extra a c
    → (a < z.moved_along) × (c < z.moved_across)
grown_in_lem z extra es b a c h =
    let e = b.strips.each h.from.number h.from.below in
    let i = e.within in
    let l = e.line in
    let hi = h.from.high in
    let q = h.from.line in
    let x = h.along in
    let y = h.across in
    let f = h.few_along in
    let k = h.few_across in
    (omega arith, omega arith)

-- ── the moved piece's marks, widened ──

module _ (P : ℕ → ℕ → Type 0) (z : Sides) (levels : ℕ) (xs ms gs : List ℕ) (f : SidesFit z)
    (inside : (a c : ℕ) → P a c → (a < z.moved_along) × (c < z.moved_across))
    (n : LevelsFor z.standing_along levels) (room : LevelRoom ms (mark_words z) levels) (m : MarksMade P (row_width z) (mark_words z) xs ms)
    (g : Grown ms (mark_words z) levels gs)
  where
    -- a mark lies in its rows
    mark_in : (a c : ℕ) → P a c → c * row_width z + a + z.standing_along ≤ z.moved_across * row_width z
    mark_in a c h =
        let i = inside a c h in
        let l : (c + 1) * row_width z ≤ z.moved_across * row_width z = mul-le-mul_right (row_width z) (omega arith) in
        let e : (c + 1) * row_width z ≡ c * row_width z + row_width z = omega arith in
        omega arith

    -- and none reaches the last word when it is widened
    limited : Limited ms (mark_words z) levels
    limited p l e =
        let k = m.only p l e in
        let q = k.place in
        let i = mark_in k.a k.c k.point in
        let w = n.narrow in
        omega arith

    -- so their levels can be moved up, and level 0 is the marks
    widened : Levels gs (mark_words z) levels × MarksOf P (row_width z) (level_of gs (mark_words z) 0)
    widened = (
      grown_levels ms gs (mark_words z) levels room g limited,
      record {
        set = λ a c h.
            let i = mark_in a c h in
            let s = f.standing_along.low in
            level_first ms gs (mark_words z) levels room g (c * row_width z + a) (omega arith) ∙ m.set a c h (omega arith);
        only = λ p e. go p e (below_or p (mark_words z * 64));
      },
    )
      where
        go : (p : ℕ) → bit_in (level_of gs (mark_words z) 0) p ≡ true → (p < mark_words z * 64) ⊎ (mark_words z * 64 ≤ p) → MarkAt P (row_width z) p
        go p e (inl l) = m.only p l (sym (level_first ms gs (mark_words z) levels room g p l) ∙ e)
        go p e (inr l) =
            let o = n.some in
            let q = level_length ms gs (mark_words z) levels room g 0 (omega arith) in
            absurd (clash e (bit_past (level_of gs (mark_words z) 0) p (omega arith)))

-- the levels of the grown marks, for the numbers that the code has
pub levels_from : (es : List (List ℕ)) (z : Sides) (extra levels w size : ℕ) (xs ms hs gs : List ℕ) → SidesFit z
    → MovedIn z extra es → LevelsFor z.standing_along levels → w ≡ row_width z → size ≡ mark_words z
    → LevelRoom hs size levels → MarksMade (StripPoint es) w size xs ms → MarksGrown w size extra ms hs → Grown hs size levels gs
    → LevelsMade es z extra levels gs
levels_from es z extra levels w size xs ms hs gs f b n ew ez =
    subst₂
    (λ (v k : ℕ). LevelRoom hs k levels → MarksMade (StripPoint es) v k xs ms → MarksGrown v k extra ms hs → Grown hs k levels gs
    → LevelsMade es z extra levels gs) (sym ew) (sym ez)
    (λ room m h g.
    let k =
    widened (GrownPoint es extra) z levels xs hs gs f (grown_in_lem z extra es b) n room (marks_grown es (row_width z) (mark_words z) extra xs ms hs m h) g in
    record { wide = k.0; marks = k.1 })
