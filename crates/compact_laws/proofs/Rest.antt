-- Document 02, point 7, slides after slides. What a push does to a layout holds of one push after another, hence of pushes until one slides
-- nothing. A push that slides lowers the sum of all corner coordinates, so that any number of times above that sum comes to the same end, at
-- which the push slides nothing. Assumes nothing.
use Rattle.list_laws.proofs.Kit.{◌∙◌, ◌≡◌, ap, refl, sym, Bool, false, true, ◌≢◌, ◌+◌, ◌<◌, ◌≤◌, suc, zero, ℕ, le_refl, arith, length, ne_eqb, ℕ_discrete}
use Rattle.model.specs.Layout.{Job, Layout, is_locked}
use Rattle.model.specs.Compact.{Compacted, at_rest, then_slides, slide, until_still, corner_sum, until_at_rest, left_then_down, push_piece, push_below, pass, compact}
use Rattle.model.specs.declared.Direction.TheVariants.{Horizontal, Vertical}
use Rattle.descent_laws.proofs.Descent.{stay_on}
use Rattle.compact_laws.specs.Pushed.{Pushed}
use Rattle.compact_laws.proofs.Slides.{slide_pushed}

-- ── one push after another ──

-- no push
pub pushed_rest : (j : Job) (v : Layout) → Pushed j v (at_rest v)
pushed_rest j v =
    record {
      one_per_piece = refl;
      turns = λ k. refl;
      left = λ k. le_refl _;
      down = λ k. le_refl _;
      locked_stay = λ i l locked. refl;
      valid = λ h. h;
      apart = λ h. h;
      slid_is_fall = omega arith;
      still = λ e. refl;
    }

-- a push and another from where it ends
pub pushed_then : (j : Job) (v : Layout) (c : Compacted) (next : Layout → Compacted) → Pushed j v c → Pushed j c.layout (next c.layout)
    → Pushed j v (then_slides c next)
pushed_then j v c next p q =
    record {
      one_per_piece = q.one_per_piece ∙ p.one_per_piece;
      turns = λ k. q.turns k ∙ p.turns k;
      left = λ k. (let a = p.left k in let b = q.left k in omega arith);
      down = λ k. (let a = p.down k in let b = q.down k in omega arith);
      locked_stay = stay_on j v c.layout (next c.layout).layout p.locked_stay q.locked_stay;
      valid = λ h. q.valid (p.valid h);
      apart = λ h. q.apart (p.apart h);
      slid_is_fall = (let a = p.slid_is_fall in let b = q.slid_is_fall in omega arith);
      still = λ e. q.still (omega arith) ∙ p.still (omega arith);
    }

-- what comes next plays a part only at the layout at which it begins
then_agree : (c : Compacted) (f g : Layout → Compacted) → f c.layout ≡ g c.layout → then_slides c f ≡ then_slides c g
then_agree c f g e = ap (λ (z : Compacted). record { layout = z.layout; slid = c.slid + z.slid }) e

-- ── until nothing moves ──

-- a push that slides nothing is at rest at once
until_rest : (push : Layout → Compacted) (times : ℕ) (v : Layout) → (push v).slid ≡ 0 → until_still push times v ≡ at_rest v
unfolding until_still
until_rest push zero v e = refl
until_rest push (suc times) v e = rw (e, until_still)

-- one that slides is made, and the rest from there
until_step : (push : Layout → Compacted) (times : ℕ) (v : Layout) → (push v).slid ≢ 0
    → until_still push (suc times) v ≡ then_slides (push v) (until_still push times)
unfolding until_still
until_step push times v n = rw (ne_eqb (push v).slid 0 n, until_still)

-- what holds in either case holds of the whole
until_cases : (push : Layout → Compacted) (times : ℕ) (v : Layout) (P : Compacted → Type 0) → ((push v).slid ≡ 0 → P (at_rest v))
    → ((push v).slid ≢ 0 → P (then_slides (push v) (until_still push times))) → P (until_still push (suc times) v)
until_cases push times v P still slides = by_slide (ℕ_discrete (push v).slid 0)
  where
    by_slide : Dec ((push v).slid ≡ 0) → P (until_still push (suc times) v)
    by_slide (yes e) = rw (until_rest push (suc times) v e) (still e)
    by_slide (no n) = rw (until_step push times v n) (slides n)

-- where nothing was slid in all, the push slides nothing
pub until_zero : (push : Layout → Compacted) (times : ℕ) (v : Layout) → (until_still push (suc times) v).slid ≡ 0 → (push v).slid ≡ 0
until_zero push times v = until_cases push times v (λ c. c.slid ≡ 0 → (push v).slid ≡ 0) (λ s e. s) (λ n e. omega arith)

-- a push that slides nothing is at rest
pub rest_still : (push : Layout → Compacted) (v : Layout) → (push v).slid ≡ 0 → until_at_rest push v ≡ at_rest v
rest_still push v e = until_rest push (suc (corner_sum v)) v e

module _ (j : Job) (n : ℕ) (push : Layout → Compacted) (each : (w : Layout) → length w ≡ n → Pushed j w (push w)) where
  -- a push leaves as many placements
  sized : (v : Layout) → length v ≡ n → length (push v).layout ≡ n
  sized v size = (each v size).one_per_piece ∙ size

  -- what holds of a push holds of pushes until one slides nothing
  pub until_pushed : (times : ℕ) (v : Layout) → length v ≡ n → Pushed j v (until_still push times v)
  unfolding until_still
  until_pushed zero v size = pushed_rest j v
  until_pushed (suc times) v size =
      until_cases push times v (Pushed j v) (λ e. pushed_rest j v)
      (λ slides. pushed_then j v (push v) (until_still push times) (each v size) (until_pushed times (push v).layout (sized v size)))

  -- a push that slides lowers the sum of all corner coordinates
  lowered : (v : Layout) → length v ≡ n → (push v).slid ≢ 0 → corner_sum (push v).layout < corner_sum v
  lowered v size slides = let fall = (each v size).slid_is_fall in omega arith

  -- any number of times above that sum gives the same
  times_enough : (s t : ℕ) (v : Layout) → length v ≡ n → corner_sum v < s → corner_sum v < t → until_still push s v ≡ until_still push t v
  times_enough zero t v size l m = absurd (omega arith)
  times_enough (suc s) zero v size l m = absurd (omega arith)
  times_enough (suc s) (suc t) v size l m =
      until_cases push s v (λ c. c ≡ until_still push (suc t) v) (λ e. sym (until_rest push (suc t) v e))
      (λ slides.
      let less = lowered v size slides in
      then_agree (push v) (until_still push s) (until_still push t) (times_enough s t (push v).layout (sized v size) (omega arith) (omega arith))
      ∙ sym (until_step push t v slides))

  -- a push that slides is made, and then pushes until one slides nothing
  pub rest_step : (v : Layout) → length v ≡ n → (push v).slid ≢ 0 → until_at_rest push v ≡ then_slides (push v) (until_at_rest push)
  rest_step v size slides =
      until_step push (corner_sum v) v slides
      ∙ then_agree (push v) (until_still push (corner_sum v)) (until_at_rest push)
      (times_enough (corner_sum v) (suc (corner_sum (push v).layout)) (push v).layout (sized v size) (lowered v size slides) (omega arith))

  -- with so many times the push slides nothing at the end
  still_end : (times : ℕ) (v : Layout) → length v ≡ n → corner_sum v < times → (push (until_still push times v).layout).slid ≡ 0
  still_end zero v size l = absurd (omega arith)
  still_end (suc times) v size l =
      until_cases push times v (λ c. (push c.layout).slid ≡ 0) (λ e. e)
      (λ slides. let less = lowered v size slides in still_end times (push v).layout (sized v size) (omega arith))

  -- at the end the push slides nothing
  pub rest_end : (v : Layout) → length v ≡ n → (push (until_at_rest push v).layout).slid ≡ 0
  rest_end v size = still_end (suc (corner_sum v)) v size (omega arith)

-- ── the pushes of one piece, of some, and of all until nothing moves ──

-- a free piece slides left, then down
pub left_down_pushed : (j : Job) (i : ℕ) (v : Layout) → length v ≡ j.size.count → i < j.size.count → is_locked j i ≡ false
    → Pushed j v (left_then_down j i v)
unfolding left_then_down
left_down_pushed j i v size there free =
    let first : Pushed j v (slide Horizontal j i v) = slide_pushed Horizontal j i v size there free in
    pushed_then j v (slide Horizontal j i v) (slide Vertical j i) first
    (slide_pushed Vertical j i (slide Horizontal j i v).layout (first.one_per_piece ∙ size) there free)

-- by the lock of the piece
piece_at_lem : (j : Job) (i : ℕ) (v : Layout) → length v ≡ j.size.count → i < j.size.count → (b : Bool) → is_locked j i ≡ b
    → Pushed j v (elim b as (λ _. Compacted) [ true ↦ at_rest v | false ↦ until_at_rest (left_then_down j i) v ])
piece_at_lem j i v size there true locked = pushed_rest j v
piece_at_lem j i v size there false free =
    until_pushed j j.size.count (left_then_down j i) (λ w e. left_down_pushed j i w e there free) (suc (corner_sum v)) v size

-- a piece slides until neither moves it, if it is free
pub piece_pushed : (j : Job) (i : ℕ) (v : Layout) → length v ≡ j.size.count → i < j.size.count → Pushed j v (push_piece j i v)
unfolding push_piece
piece_pushed j i v size there = piece_at_lem j i v size there (is_locked j i) refl

-- the pieces below n slide, in number order
pub below_pushed : (j : Job) (n : ℕ) (v : Layout) → length v ≡ j.size.count → n ≤ j.size.count → Pushed j v (push_below j n v)
unfolding push_below
below_pushed j zero v size l = pushed_rest j v
below_pushed j (suc n) v size l =
    let earlier : Pushed j v (push_below j n v) = below_pushed j n v size (omega arith) in
    pushed_then j v (push_below j n v) (push_piece j n) earlier (piece_pushed j n (push_below j n v).layout (earlier.one_per_piece ∙ size) l)

-- a pass
pub pass_pushed : (j : Job) (v : Layout) → length v ≡ j.size.count → Pushed j v (pass j v)
pass_pushed j v size = below_pushed j j.size.count v size (le_refl _)

-- passes until one moves nothing
pub compact_pushed : (j : Job) (v : Layout) → length v ≡ j.size.count → Pushed j v (compact j v)
unfolding compact
compact_pushed j v size = until_pushed j j.size.count (pass j) (pass_pushed j) (suc (corner_sum v)) v size
