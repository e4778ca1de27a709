-- What reading a layout comes to, by its parts: the job's check, the layout line, the pieces' lines, the buffer's length. Assumes
-- nothing.
use Rattle.std.specs.Prelude.{Ok, Err}
use Rattle.list_laws.proofs.Kit.{◌≡◌, ap, refl, false, true, List, [], ◌∷◌, suc, zero, ℕ, length, eq-eqb, ne_eqb}
use Rattle.model.specs.Layout.{Job, Layout}
use Rattle.model.specs.Refusal.{Outcome, refused, given, unless, plain_refusal, wrong_length, not_ours}
use Rattle.model.specs.Lent.{Lent, job_of, lent_well}
use Rattle.model.specs.LayoutText.{layout_line, placement_line, placements_at, read_layout}
use Rattle.model.specs.Calls.{read_layout_call}
use Rattle.model.specs.declared.Refusal.{Refusal}
use Rattle.text_laws.specs.Outcomes.{Unless}
use Rattle.text_laws.proofs.Outcomes.{given_unless, given_before}
use Rattle.model.specs.Answers.{done_answer}
use Rattle.layout_read_calls.specs.Readings.{layout_from, position_answer}
use Rattle.layout_read_calls.proofs.Progress.{given_same}

-- ── what the answers say of the outcomes ──

pub layout_refused_lem : (o : Outcome Layout) (r : Refusal) → Err r ≡ done_answer o → o ≡ refused r
layout_refused_lem (refused s) r e = cc
layout_refused_lem (given v) r e = cc

-- a layout that is given
pub record ReadGiven (o : Outcome Layout) : Type 0 where
  pub layout : Layout
  pub gives : o ≡ given layout

pub layout_given : (o : Outcome Layout) → Ok tt ≡ done_answer o → ReadGiven o
layout_given (refused s) e = cc
layout_given (given v) e = record { layout = v; gives = refl }

pub position_refused : (o : Outcome ℕ) (r : Refusal) → Err r ≡ position_answer o → o ≡ refused r
position_refused (refused s) r e = cc
position_refused (given p) r e = cc

pub position_given : (o : Outcome ℕ) (p : ℕ) → Ok p ≡ position_answer o → o ≡ given p
position_given (refused s) p e = cc
position_given (given q) p e = cc

-- ── the buffer ──

-- the lines of so many pieces give so many placements
pub placements_count : (j : Job) (text : List ℕ) (left i p line : ℕ) (v : Layout) → placements_at j text left i p line ≡ given v → length v ≡ left
unfolding placements_at
placements_count j text zero i p line v e = let u : Unless _ [] v = given_unless _ [] v e in rw (← u.same)
placements_count j text (suc left) i p line v e =
    let b = given_before (placement_line j text i p line) _ v e in
    let d = given_before (placements_at j text left (suc i) b.value.next (suc line)) _ v b.goes in
    let n : length d.value ≡ left = placements_count j text left (suc i) b.value.next (suc line) d.value d.gives in
    let z : b.value.place ∷ d.value ≡ v = given_same d.goes in
    rw (← z) (ap suc n)

-- ── the outcomes ──

module _ (l : Lent) (text : List ℕ) (p room : ℕ) where
  pub from_refused : (r : Refusal) → placements_at (job_of l) text l.size.count 0 p 2 ≡ refused r → layout_from (job_of l) text p room ≡ refused r
  unfolding job_of
  from_refused r e = rw e

  pub from_unlike : (v : Layout) → placements_at (job_of l) text l.size.count 0 p 2 ≡ given v → (room ≡ l.size.count → ⊥)
      → layout_from (job_of l) text p room ≡ refused (plain_refusal wrong_length)
  unfolding job_of unless
  from_unlike v e n = rw (e, ne_eqb room l.size.count n)

  pub from_given : (v : Layout) → placements_at (job_of l) text l.size.count 0 p 2 ≡ given v → room ≡ l.size.count
      → layout_from (job_of l) text p room ≡ given v
  unfolding job_of unless
  from_given v e n = rw (e, eq-eqb room l.size.count n)

module _ (l : Lent) (text : List ℕ) (room : ℕ) where
  pub read_unsound : lent_well l ≡ false → read_layout_call l text room ≡ refused (plain_refusal not_ours)
  unfolding read_layout_call unless
  read_unsound e = rw e

  pub read_refused : (r : Refusal) → lent_well l ≡ true → layout_line (job_of l) text ≡ refused r → read_layout_call l text room ≡ refused r
  unfolding read_layout_call unless read_layout
  read_refused r e f = rw (e, f)

  pub read_from : (p : ℕ) → lent_well l ≡ true → layout_line (job_of l) text ≡ given p → read_layout_call l text room ≡ layout_from (job_of l) text p room
  unfolding read_layout_call unless read_layout
  read_from p e f = rw (e, f)
