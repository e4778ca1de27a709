-- The outcome of the no-fit calls. Assumes nothing.
use Rattle.std.specs.Prelude.{not, ◌&&◌, List, [], ◌∷◌, map, ℕ, min, ℤ, length}
use Rattle.std.proofs.lemmas.List.Edits.{sets}
use Rattle.model.specs.Strip.{Run, runs}
use Rattle.model.specs.Overlap.{offset_bound, up, down}
use Rattle.model.specs.Refusal.{Outcome, Cause, cause, unless, no_such_piece, not_ours}
use Rattle.model.specs.Lent.{Lent, job_of}
use Rattle.model.specs.Calls.{LentStretch, known, stretch_well, job_cause, at_least, leaving}
use Rattle.model.specs.declared.Direction.{Direction}
use Rattle.model.specs.declared.Turn.{Turn}
use Rattle.pair_overlap.specs.declared.Corner.{Corner}
use Rattle.pair_nofit.specs.Marks.{meets_at}
use Rattle.pair_runs.specs.Runs.{offset_entry, offset_count, farthest}

-- the corners at which the marks are a no-fit line's; at offsets across of 263 and more no pieces conflict
abbrev pub low_corner : ℤ → Corner
low_corner o = record { along = offset_bound; across = min (down o) farthest }

abbrev pub high_corner : ℤ → Corner
high_corner o = record { along = 0; across = min (up o) farthest }

-- the runs of the offsets at which strips of two stretches are at most g apart
abbrev pub line_runs : ℕ → List (List ℕ) → List (List ℕ) → ℤ → List Run
line_runs g es fs o = runs (meets_at g es (low_corner o) fs (high_corner o)) offset_count

-- they are given where there is room for them
abbrev pub line_outcome : ℕ → List (List ℕ) → List (List ℕ) → ℤ → ℕ → Outcome (List Run)
line_outcome g es fs o room = unless (at_least (length (line_runs g es fs o)) room ∷ []) (line_runs g es fs o)

-- what the run buffer then holds
abbrev pub line_after : List (List ℤ) → Outcome (List Run) → List (List ℤ)
line_after before o = leaving (λ rs. sets before 0 (map offset_entry rs)) before o

-- a piece in a turn with a lent stretch
abbrev pub lent_stretch : ℕ → Turn → List (List ℕ) → LentStretch
lent_stretch i t es = record { piece = i; turn = t; stretch = es }

-- the causes of a no-fit call before the room is asked for: 8 the job, 9, 8 a stretch
unfoldable pub stretch_causes : Direction → Lent → LentStretch → LentStretch → List Cause
stretch_causes d l p q =
    job_cause l ∷ cause no_such_piece (not (known (job_of l) p && known (job_of l) q))
    ∷ cause not_ours (not (stretch_well d (job_of l) p && stretch_well d (job_of l) q)) ∷ []
