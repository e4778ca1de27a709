-- The form of a line and then its ranges, and what its refusal says. Assumes nothing.
use Rattle.list_laws.proofs.Kit.{◌≡◌, ap, Bool, false, true, List, [], ◌∷◌, ◌≤◌, ℕ, le_refl, arith}
use Rattle.model.specs.Refusal.{Outcome, refused, given, Cause, refusal_of, unless}
use Rattle.model.specs.Text.{Reading, wrong, got, line_at, formed}
use Rattle.model.specs.JobText.{JobLine, PieceLine, piece_word, piece_ends, job_versions, as_piece_line, job_line, job_line_causes, piece_line}
use Rattle.model.specs.JobText.{piece_line_causes}
use Rattle.job_lines.specs.Lines.{head_of, job_line_of, job_answer, said_by, job_form, head_next, piece_of, piece_line_of, piece_answer, piece_form}
use Rattle.job_lines.specs.Lines.{piece_next}
use Rattle.model.specs.declared.Refusal.{Refusal}
use Rattle.job_lines.specs.declared.JobHead.{JobHead}
use Rattle.job_lines.specs.declared.PieceHead.{PieceHead}
use Rattle.std.specs.Prelude.{Ok, Err}

-- a number that no refusal makes larger
pub unless_at_most : {L : Type 0} (f : Outcome L → ℕ) (n : ℕ) (l : L) → ((s : Refusal) → f (refused s) ≤ n) → f (given l) ≤ n → (cs : List Cause)
    → f (unless cs l) ≤ n
unfolding unless
unless_at_most {L = L} f n l h k [] = k
unless_at_most {L = L} f n l h k (c ∷ cs) = go c.there (unless_at_most {L = L} f n l h k cs)
  where
    go : (b : Bool) → f (unless cs l) ≤ n → f (elim b as (λ _. Outcome L) [ true ↦ refused (refusal_of c) | false ↦ unless cs l ]) ≤ n
    go true e = h (refusal_of c)
    go false e = e

-- ── the job line ──

-- a line of wrong form is refused for it
said_wrong : (r : Reading JobLine) (s : Refusal) → Err s ≡ job_answer (said_by r)
    → Err s ≡ job_answer (formed 1 r (λ j next. unless (job_line_causes j) j))
said_wrong wrong s e = e
said_wrong (got k p) s e = cc

pub job_line_refused : (text : List ℕ) (s : Refusal) → Err s ≡ job_answer (job_form text) → Err s ≡ job_answer (job_line text)
unfolding job_line
job_line_refused text s e = said_wrong (job_versions text) s e

-- a line of right form goes on to its ranges
said_right : (r : Reading JobLine) (j : JobHead) → Ok j ≡ job_answer (said_by r)
    → job_answer (unless (job_line_causes (job_line_of j)) (job_line_of j)) ≡ job_answer (formed 1 r (λ k next. unless (job_line_causes k) k))
said_right wrong j e = cc
said_right (got k p) j e =
    let h : j ≡ head_of k = cc in ap (λ (x : JobHead). job_answer (unless (job_line_causes (job_line_of x)) (job_line_of x))) h

pub job_line_ranged : (text : List ℕ) (j : JobHead) → Ok j ≡ job_answer (job_form text)
    → job_answer (unless (job_line_causes (job_line_of j)) (job_line_of j)) ≡ job_answer (job_line text)
unfolding job_line
job_line_ranged text j e = said_right (job_versions text) j e

pub job_next : (j : JobLine) → head_next (job_answer (unless (job_line_causes j) j)) ≤ j.next
job_next j = unless_at_most (λ o. head_next (job_answer o)) j.next j (λ s. omega arith) (le_refl j.next) (job_line_causes j)

-- ── a piece line ──

module _ (j : JobLine) (i area line : ℕ) where
  -- what the numbers of a piece's line say, unless a cause is there
  abbrev ranged : PieceLine → Outcome PieceLine
  ranged h = unless (piece_line_causes line j i area h) h

  -- a line of wrong form is refused for it
  piece_wrong : (r : Reading (List ℕ)) (s : Refusal) → Err s ≡ piece_answer (formed line r (λ ks next. given (as_piece_line ks next)))
      → Err s ≡ piece_answer (formed line r (λ ks next. ranged (as_piece_line ks next)))
  piece_wrong wrong s e = e
  piece_wrong (got ks p) s e = cc

  -- a line of right form goes on to its ranges
  piece_right : (r : Reading (List ℕ)) (h : PieceHead) → Ok h ≡ piece_answer (formed line r (λ ks next. given (as_piece_line ks next)))
      → piece_answer (ranged (piece_line_of h)) ≡ piece_answer (formed line r (λ ks next. ranged (as_piece_line ks next)))
  piece_right wrong h e = cc
  piece_right (got ks p) h e =
      let g : h ≡ piece_of (as_piece_line ks p) = cc in ap (λ (x : PieceHead). piece_answer (ranged (piece_line_of x))) g

  pub piece_line_refused : (text : List ℕ) (p : ℕ) (s : Refusal) → Err s ≡ piece_answer (piece_form text j.locks p line)
      → Err s ≡ piece_answer (piece_line text j i area p line)
  unfolding piece_line
  piece_line_refused text p s e = piece_wrong (line_at piece_word (piece_ends j.locks) text p) s e

  pub piece_line_ranged : (text : List ℕ) (p : ℕ) (h : PieceHead) → Ok h ≡ piece_answer (piece_form text j.locks p line)
      → piece_answer (unless (piece_line_causes line j i area (piece_line_of h)) (piece_line_of h)) ≡ piece_answer (piece_line text j i area p line)
  unfolding piece_line
  piece_line_ranged text p h e = piece_right (line_at piece_word (piece_ends j.locks) text p) h e

pub piece_next_lem : (cs : List Cause) (h : PieceLine) → piece_next (piece_answer (unless cs h)) ≤ h.next
piece_next_lem cs h = unless_at_most (λ o. piece_next (piece_answer o)) h.next h (λ s. omega arith) (le_refl h.next) cs
