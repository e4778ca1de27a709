-- Document 01, 'Descent and guidance', a whole descent as a loop: it stands at a layout, three counts and the place of the trial that comes
-- next, with so much of the budget left. What the whole descent gives is always what comes from where the loop stands: each pass of
-- the loop is one of the laws below, and its end is another. They hold over any list of trials, one without a trial too: no trial is read
-- before the quiet count differs from their number. Assumes nothing.
use Rattle.list_laws.proofs.Kit.{◌∙◌, ◌≡◌, ap, refl, subst, sym, ◌≢◌, none, some, List, ◌+◌, ◌-◌, ◌<◌, ◌≤◌, suc, zero, ℕ, arith}
use Rattle.list_laws.proofs.Kit.{get_or, length, eq-eqb, ne_eqb}
use Rattle.list_laws.proofs.Lists.{member_at}
use Rattle.model.specs.Layout.{Job, Layout, weighted_sum, piece_sum}
use Rattle.model.specs.Piece.{on_line}
use Rattle.model.specs.Search.{Best, moved_to, sum_at}
use Rattle.model.specs.Descent.{Trial, Attempt, moved, quiet, Progress, Descent, trials, trial_line, attempt, begin, proceed, no_trial, descend_from, descend}
use Rattle.model.specs.declared.End.{End}
use Rattle.model.specs.declared.End.TheVariants.{Clear, Settled, Spent}
use Rattle.descent_laws.proofs.Run.{after_there}
use Rattle.descent_laws.specs.Trials.{Proper}
use Rattle.descent_laws.proofs.Trials.{mem_trial}
use Rattle.descent_laws.specs.Claims.{ValidLayout}
use Rattle.descent_laws.proofs.Descent.{attempt_moved}
use Rattle.search_laws.specs.Loop.{trial_sums, trial_places, trial_search}
use Rattle.search_laws.proofs.PieceSum.{moved_sum}
use Rattle.search_laws.proofs.BoundedSearch.{Lowest, bounded_is}
use Rattle.search_laws.proofs.LineSearch.{best_taken, attempt_below}

-- ── one pass of the loop ──

-- what a descent over given trials gives from here on, with so much of the budget left
abbrev pub onward : Job → List ℕ → List Trial → ℕ → Progress → Descent
onward j ws ks left s = descend_from (weighted_sum j ws) (attempt j ws) ks left s

-- the trial that comes next
abbrev pub next_of : List Trial → Progress → Trial
next_of ks s = get_or ks s.next no_trial

-- what a descent gives that ends at s, from the sum kept beside it
abbrev pub closed : End → Progress → ℕ → Descent
closed e s sum = record { end = e; layout = s.layout; sum = sum; made = s.made; moves = s.moves }

module _ (j : Job) (ws : List ℕ) (ks : List Trial) (s : Progress) where
  -- sum zero: clear
  pub onward_clear : (left : ℕ) → weighted_sum j ws s.layout ≡ 0 → onward j ws ks left s ≡ closed Clear s (weighted_sum j ws s.layout)
  unfolding descend_from
  onward_clear zero e = rw (eq-eqb (weighted_sum j ws s.layout) 0 e, descend_from)
  onward_clear (suc left) e = rw (eq-eqb (weighted_sum j ws s.layout) 0 e, descend_from)

  module _ (positive : weighted_sum j ws s.layout ≢ 0) where
    -- else quiet count T: settled
    pub onward_settled : (left : ℕ) → s.quiet_count ≡ length ks → onward j ws ks left s ≡ closed Settled s (weighted_sum j ws s.layout)
    unfolding descend_from
    onward_settled zero e = rw (ne_eqb (weighted_sum j ws s.layout) 0 positive, eq-eqb s.quiet_count (length ks) e, descend_from)
    onward_settled (suc left) e = rw (ne_eqb (weighted_sum j ws s.layout) 0 positive, eq-eqb s.quiet_count (length ks) e, descend_from)

    module _ (unsettled : s.quiet_count ≢ length ks) where
      -- else budget used up: spent
      pub onward_spent : onward j ws ks 0 s ≡ closed Spent s (weighted_sum j ws s.layout)
      unfolding descend_from
      onward_spent = rw (ne_eqb (weighted_sum j ws s.layout) 0 positive, ne_eqb s.quiet_count (length ks) unsettled, descend_from)

      -- else a trial is taken
      onward_suc : (left : ℕ) → onward j ws ks (suc left) s ≡ onward j ws ks left (proceed (length ks) s (attempt j ws s.layout (next_of ks s)))
      unfolding descend_from
      onward_suc left = rw (ne_eqb (weighted_sum j ws s.layout) 0 positive, ne_eqb s.quiet_count (length ks) unsettled, descend_from)

      -- the trial came to an attempt
      pub onward_step : (left : ℕ) (a : Attempt) → 0 < left → attempt j ws s.layout (next_of ks s) ≡ a
          → onward j ws ks left s ≡ onward j ws ks (left - 1) (proceed (length ks) s a)
      onward_step left a l e =
          let more : left ≡ suc (left - 1) = omega arith in
          ap (λ n. onward j ws ks n s) more ∙ onward_suc (left - 1) ∙ ap (λ b. onward j ws ks (left - 1) (proceed (length ks) s b)) e

-- ── the trial, as the search with a bound ──

-- the layout after a move to coordinate a
abbrev pub trial_moved : Layout → Trial → ℕ → Layout
trial_moved v k a = moved_to v k.piece k.turn (trial_line v k) a

module _ (j : Job) (ws : List ℕ) (v : Layout) (k : Trial) where
  -- the search found a place: a move
  pub trial_moved_lem : (b : Best) → trial_search j ws v k ≡ some b → attempt j ws v k ≡ moved (trial_moved v k b.at)
  trial_moved_lem b e = attempt_below j ws v k ∙ ap (best_taken (trial_moved v k)) e

  -- it found none: quiet
  pub trial_quiet : trial_search j ws v k ≡ none → attempt j ws v k ≡ quiet
  trial_quiet e = attempt_below j ws v k ∙ ap (best_taken (trial_moved v k)) e

  -- what is known of a place that was found
  found : (b : Best) → trial_search j ws v k ≡ some b → Lowest (trial_sums j ws v k) (trial_places j v k) (piece_sum j ws v k.piece) b
  found b e = rw e at (bounded_is (trial_sums j ws v k) (trial_places j v k) (piece_sum j ws v k.piece))

  -- the sum after a move: the present pair sum taken off, the one that was found added
  pub trial_sum : (b : Best) → trial_search j ws v k ≡ some b
      → weighted_sum j ws (trial_moved v k b.at) ≡ weighted_sum j ws v - piece_sum j ws v k.piece + b.sum
  unfolding sum_at
  trial_sum b e =
      let f = found b e in
      moved_sum j ws v k.piece (on_line (trial_line v k) k.turn b.at) ∙ ap (λ x. weighted_sum j ws v - piece_sum j ws v k.piece + x) (sym f.attained)

  -- the pair sum of the piece after a move is the one that was found
  pub trial_piece_sum : (b : Best) → trial_search j ws v k ≡ some b → piece_sum j ws (trial_moved v k b.at) k.piece ≡ b.sum
  unfolding sum_at
  trial_piece_sum b e = sym (found b e).attained

  -- the place is one of the line's, and its sum is below the present one
  pub trial_place : (b : Best) → trial_search j ws v k ≡ some b → (b.at < trial_places j v k) × (b.sum < piece_sum j ws v k.piece)
  trial_place b e = let f = found b e in (f.there, f.below)

  -- after a move each piece still lies inside in a turn allowed to it
  pub trial_valid : (b : Best) → Proper j 0 j.size.count k → ValidLayout j v → trial_search j ws v k ≡ some b → ValidLayout j (trial_moved v k b.at)
  trial_valid b p h e = (attempt_moved j ws v (trial_moved v k b.at) k p h (trial_moved_lem b e)).0

-- ── what holds before each pass ──

-- the loop of the descent over the trials ks from v stands at s, with `left` of the budget, and `sum` is kept beside it; where there is a trial
-- the one that comes next is one of them
pub record Underway (j : Job) (ws : List ℕ) (ks : List Trial) (budget : ℕ) (v : Layout) (left : ℕ) (s : Progress) (sum : ℕ) : Type 0 where
  pub result : onward j ws ks budget (begin v) ≡ onward j ws ks left s
  pub sum_is : sum ≡ weighted_sum j ws s.layout
  pub valid : ValidLayout j s.layout
  pub there : 0 < length ks → s.next < length ks
  pub counted : s.made + left ≡ budget
  pub moves_made : s.moves ≤ s.made
  pub quiet_few : s.quiet_count ≤ length ks

module _ (j : Job) (ws : List ℕ) (ks : List Trial) (budget : ℕ) (v : Layout) where
  -- it holds before the first pass
  pub underway_begin : ValidLayout j v → Underway j ws ks budget v budget (begin v) (weighted_sum j ws v)
  underway_begin h =
      record {
        result = refl;
        sum_is = refl;
        valid = h;
        there = λ l. l;
        counted = omega arith;
        moves_made = omega arith;
        quiet_few = omega arith;
      }

  module _ (left : ℕ) (s : Progress) (sum : ℕ) (u : Underway j ws ks budget v left s sum) where
    -- sum zero: the descent is clear
    pub underway_clear : sum ≡ 0 → onward j ws ks budget (begin v) ≡ closed Clear s sum
    underway_clear e =
        u.result ∙ onward_clear j ws ks s left (sym u.sum_is ∙ e) ∙ ap (closed Clear s) (sym u.sum_is)

    module _ (positive : sum ≢ 0) where
      -- the layout's sum is not zero
      positive_now : weighted_sum j ws s.layout ≢ 0
      positive_now e = positive (u.sum_is ∙ e)

      -- else quiet count T: it is settled
      pub underway_settled : s.quiet_count ≡ length ks → onward j ws ks budget (begin v) ≡ closed Settled s sum
      underway_settled e = u.result ∙ onward_settled j ws ks s positive_now left e ∙ ap (closed Settled s) (sym u.sum_is)

      module _ (unsettled : s.quiet_count ≢ length ks) where
        -- else nothing left: it is spent
        pub underway_spent : left ≡ 0 → onward j ws ks budget (begin v) ≡ closed Spent s sum
        underway_spent e =
            u.result ∙ ap (λ n. onward j ws ks n s) e ∙ onward_spent j ws ks s positive_now unsettled ∙ ap (closed Spent s) (sym u.sum_is)

        -- else there is a trial that comes next
        pub underway_there : s.next < length ks
        underway_there = let q = u.quiet_few in let d = unsettled in u.there (omega arith)

        module _ (more : 0 < left) where
          -- what holds before the next pass, by what the trial came to
          pass_at : (t : Attempt) → attempt j ws s.layout (next_of ks s) ≡ t → ValidLayout j (proceed (length ks) s t).layout
              → Underway j ws ks budget v (left - 1) (proceed (length ks) s t) (weighted_sum j ws (proceed (length ks) s t).layout)
          pass_at (moved w) e h =
              record {
                result = u.result ∙ onward_step j ws ks s positive_now unsettled left (moved w) more e;
                sum_is = refl;
                valid = h;
                there = after_there (length ks) s.next;
                counted = let c = u.counted in omega arith;
                moves_made = let m = u.moves_made in omega arith;
                quiet_few = omega arith;
              }
          pass_at quiet e h =
              record {
                result = u.result ∙ onward_step j ws ks s positive_now unsettled left quiet more e;
                sum_is = refl;
                valid = h;
                there = after_there (length ks) s.next;
                counted = let c = u.counted in omega arith;
                moves_made = let m = u.moves_made in omega arith;
                quiet_few = let q = u.quiet_few in let d = unsettled in omega arith;
              }

          -- what holds before the next pass
          pub underway_pass : (r : Progress) (total : ℕ) → r ≡ proceed (length ks) s (attempt j ws s.layout (next_of ks s))
              → total ≡ weighted_sum j ws r.layout → ValidLayout j r.layout → Underway j ws ks budget v (left - 1) r total
          underway_pass r total e t h =
              let valid : ValidLayout j (proceed (length ks) s (attempt j ws s.layout (next_of ks s))).layout =
              subst (λ (z : Progress). ValidLayout j z.layout) e h in
              let there : Underway j ws ks budget v (left - 1) r (weighted_sum j ws r.layout) =
              subst (λ (z : Progress). Underway j ws ks budget v (left - 1) z (weighted_sum j ws z.layout)) (sym e)
              (pass_at (attempt j ws s.layout (next_of ks s)) refl valid) in
              subst (λ (n : ℕ). Underway j ws ks budget v (left - 1) r n) (sym t) there

-- ── the trials of a job ──

-- the descent of a job is the one over its trials
pub descend_over : (j : Job) (ws : List ℕ) (budget : ℕ) (v : Layout) → descend j ws budget v ≡ onward j ws (trials j) budget (begin v)
unfolding descend
descend_over j ws budget v = refl

-- the trial at a place of the list is of a piece of the job in a turn allowed to it
pub trial_proper : (j : Job) (m : ℕ) → m < length (trials j) → Proper j 0 j.size.count (get_or (trials j) m no_trial)
trial_proper j m l = mem_trial j _ (member_at (trials j) m no_trial l)
