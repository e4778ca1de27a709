-- A row of a map done block by block. Assumes nothing.
use Rattle.list_laws.proofs.Kit.{◌∙◌, ◌≡◌, ap, refl, subst, subst₃, sym, ◌⊎◌, inl, inr, List, ◌+◌, ◌-◌, ◌<◌, ◌≤◌, ℕ, arith, get_or, length}
use Rattle.list_laws.proofs.Numbers.{below_or}
use Rattle.search_peel.specs.Peel.{PlaceDone, EndsBy, Reaches, Peeled}
use Rattle.search_map_lines.specs.Line.{RowReaches, RowDone}

-- the places below `at` are done
pub record RowDoing (ws : List ℕ) (w p places : ℕ) (xs ys : List ℕ) (at : ℕ) : Type 0 where
  pub same : length ys ≡ length xs
  pub each : (x : ℕ) → x < at → PlaceDone ws w (p + x) (get_or xs x 0) (get_or ys x 0)
  pub rest : (k : ℕ) → at ≤ k → get_or ys k 0 ≡ get_or xs k 0

module _ (ws : List ℕ) (w p places : ℕ) (xs : List ℕ) where
  -- before the first block
  pub row_start_lem : RowDoing ws w p places xs xs 0
  row_start_lem = record { same = refl; each = λ x l. absurd (omega arith); rest = λ k l. refl }

  -- a block can be read
  pub block_reaches : (at count : ℕ) → RowReaches ws w p places → 1 ≤ count → count ≤ 64 → at + count ≤ places → Reaches ws w (p + at) count
  block_reaches at count h o l k =
      record {
        reach = h.reach;
        wide = h.wide;
        short = h.short;
        low = omega (arith, h.low);
        high = omega (arith, h.high);
        room = h.room;
        few = (o, l);
        ends = λ x i.
            let e : p + at + x ≡ p + (at + x) = omega arith in
            subst (λ (q : ℕ). EndsBy ws w q h.reach) (sym e) (h.ends (at + x) (omega arith));
      }

  -- one more block
  pub row_step : (ys zs : List ℕ) (at count : ℕ) → RowDoing ws w p places xs ys at → Peeled ws w (p + at) count at ys zs
      → RowDoing ws w p places xs zs (at + count)
  row_step ys zs at count g q =
      record {
        same = q.same ∙ g.same;
        each = λ x l. go x l (below_or x at);
        rest = λ k l. q.after k l ∙ g.rest k (omega arith);
      }
    where
      go : (x : ℕ) → x < at + count → (x < at) ⊎ (at ≤ x) → PlaceDone ws w (p + x) (get_or xs x 0) (get_or zs x 0)
      go x l (inl h) = subst (PlaceDone ws w (p + x) (get_or xs x 0)) (sym (q.before x h)) (g.each x h)
      go x l (inr h) =
          let e : at + (x - at) ≡ x = omega arith in
          let i : p + at + (x - at) ≡ p + x = omega arith in
          let old : get_or ys (at + (x - at)) 0 ≡ get_or xs x 0 = ap (λ (k : ℕ). get_or ys k 0) e ∙ g.rest x h in
          let new : get_or zs (at + (x - at)) 0 ≡ get_or zs x 0 = ap (λ (k : ℕ). get_or zs k 0) e in
          subst₃ (λ (a b c : ℕ). PlaceDone ws w a b c) i old new (q.each (x - at) (omega arith))

  -- after the last
  pub row_end : (ys : List ℕ) (at : ℕ) → at ≡ places → RowDoing ws w p places xs ys at → RowDone ws w p places xs ys
  row_end ys at e g = record { same = g.same; each = λ x l. g.each x (omega arith); after = λ k l. g.rest k (omega arith) }
