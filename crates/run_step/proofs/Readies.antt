-- What is at hand before a trial and after it: what a search asks for and the layout that a trial leaves. Assumes nothing.
use Rattle.list_laws.proofs.Kit.{◌∙◌, ◌≡◌, ap₂, refl, subst, sym, true, Option, none, some, List, ℕ, length, length-map}
use Rattle.model.specs.Piece.{on_line}
use Rattle.model.specs.Layout.{Job, piece_sum}
use Rattle.model.specs.Lent.{Lent, job_of, lent_well}
use Rattle.model.specs.Buffer.{placement_of, layout_of, entries_of}
use Rattle.model.specs.Search.{Best}
use Rattle.model.specs.Descent.{Trial, trial_line}
use Rattle.model.specs.declared.Line.{Line}
use Rattle.descent_laws.specs.Claims.{ValidLayout}
use Rattle.descent_laws.specs.Trials.{Proper}
use Rattle.search_laws.specs.Table.{PenaltyTable}
use Rattle.search_laws.specs.Loop.{trial_search}
use Rattle.search_laws.proofs.Loop.{trial_valid}
use Rattle.descent_laws.specs.LentLayout.{Laid}
use Rattle.search_tracks.specs.declared.Mover.{Mover}
use Rattle.run_step.specs.Ready.{LaidOut}
use Rattle.run_step.specs.Steps.{mover_search, entries_after}
use Rattle.text_laws.proofs.Entries.{layout_set, written_set}

-- ── before a trial ──

-- a buffer has an entry a piece
pub laid_length : (l : Lent) (es : List (List ℕ)) (T : List ℕ) → LaidOut l es T → length es ≡ l.size.count
unfolding job_of
laid_length l es T h = sym (length-map es placement_of) ∙ h.valid.one_per_piece

-- a layout that a descent stands at is one that calls take
pub laid_of : (l : Lent) (es : List (List ℕ)) (T : List ℕ) → lent_well l ≡ true → LaidOut l es T → Laid l es
unfolding job_of
laid_of l es T w h = record { well = w; whole = laid_length l es T h; valid = h.valid }

-- ── after a trial ──

-- a mover that stands for a trial
abbrev pub mover_of : Trial → Line → Mover
mover_of k line = record { piece = k.piece; turn = k.turn; line = line }

module _ (j : Job) (ws : List ℕ) (es : List (List ℕ)) (k : Trial) (line : Line) (present : ℕ) (is_line : line ≡ trial_line (layout_of es) k)
    (isSum : present ≡ piece_sum j ws (layout_of es) k.piece)
  where
    -- its search below the present pair sum is the trial's
    pub search_same : mover_search j ws (layout_of es) (mover_of k line) present ≡ trial_search j ws (layout_of es) k
    search_same = ap₂ (λ (x : Line) (p : ℕ). mover_search j ws (layout_of es) (mover_of k x) p) is_line isSum

    -- and so is what it leaves in the buffer
    pub entries_same : (new : List (List ℕ)) → new ≡ entries_after es k.piece k.turn line (mover_search j ws (layout_of es) (mover_of k line) present)
        → new ≡ entries_after es k.piece k.turn (trial_line (layout_of es) k) (trial_search j ws (layout_of es) k)
    entries_same new e = e ∙ ap₂ (λ (x : Line) (o : Option Best). entries_after es k.piece k.turn x o) is_line search_same

module _ (l : Lent) (ws : List ℕ) (es : List (List ℕ)) (T : List ℕ) (k : Trial) (proper : Proper (job_of l) 0 (job_of l).size.count k)
    (h : LaidOut l es T) where
  -- the layout that a trial leaves is valid
  after_valid : (o : Option Best) → trial_search (job_of l) ws (layout_of es) k ≡ o
      → ValidLayout (job_of l) (layout_of (entries_after es k.piece k.turn (trial_line (layout_of es) k) o))
  after_valid none e = h.valid
  after_valid (some b) e =
      subst (ValidLayout (job_of l)) (sym (layout_set es k.piece (on_line (trial_line (layout_of es) k) k.turn b.at)))
      (trial_valid (job_of l) ws (layout_of es) k b proper h.valid e)

  -- it is written as its entries
  after_written : (o : Option Best)
      → entries_of (layout_of (entries_after es k.piece k.turn (trial_line (layout_of es) k) o))
      ≡ entries_after es k.piece k.turn (trial_line (layout_of es) k) o
  after_written none = h.written
  after_written (some b) = written_set es k.piece (on_line (trial_line (layout_of es) k) k.turn b.at) h.written

  -- with its table the descent stands there
  pub after_laid : (new : List (List ℕ)) (U : List ℕ)
      → new ≡ entries_after es k.piece k.turn (trial_line (layout_of es) k) (trial_search (job_of l) ws (layout_of es) k)
      → PenaltyTable (job_of l) (layout_of new) l.size.count U → LaidOut l new U
  after_laid new U e t =
      record {
        valid = subst (λ (z : List (List ℕ)). ValidLayout (job_of l) (layout_of z)) (sym e) (after_valid (trial_search (job_of l) ws (layout_of es) k) refl);
        written = subst (λ (z : List (List ℕ)). entries_of (layout_of z) ≡ z) (sym e) (after_written (trial_search (job_of l) ws (layout_of es) k));
        table = t;
      }
