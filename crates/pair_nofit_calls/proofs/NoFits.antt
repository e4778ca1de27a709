-- The no-fit calls: where no cause refuses, the lent stretches are the pieces' strips, and their line's runs are the no-fit line of
-- document 01, by the job's gap. An offset of 263 or more across the direction parts any two pieces, whatever the gap, so it may be cut off
-- there. Assumes nothing.
use Rattle.std.specs.Prelude.{Ok, Err}
use Rattle.list_laws.proofs.Kit.{◌∙◌, ◌≡◌, ap, ap₂, refl, subst, sym, Bool, ◌&&◌, false, true, ◌⊎◌, inl, inr, ⊎_elim, List, [], ◌++◌, ◌∷◌, map, ◌+◌, ◌<◌, ◌≤◌}
use Rattle.list_laws.proofs.Kit.{min, ℕ, arith, ltb, drop, length, length-map, sets-eq, negsuc, pos, ℤ, ltb-false, not-false}
use Rattle.model.specs.Piece.{Shape, extent, other}
use Rattle.model.specs.Strip.{Run, runs, strips}
use Rattle.model.specs.Overlap.{OffsetRun, unbiased, no_fit, no_fit_at, up, down}
use Rattle.model.specs.Buffer.{run_entry, filled}
use Rattle.model.specs.Layout.{turned_piece}
use Rattle.model.specs.Refusal.{Outcome, refused, cause, unless, wrong_length}
use Rattle.model.specs.Lent.{Lent, job_of, lent_well, gap_bound}
use Rattle.model.specs.Calls.{LentStretch, known, stretch_well, no_fit_of, no_fit_call, runs_after, at_least}
use Rattle.model.specs.declared.Direction.{Direction}
use Rattle.model.specs.declared.Refusal.{Refusal}
use Rattle.list_laws.proofs.Equal.{same_entries_lem}
use Rattle.list_laws.proofs.Tests.{and_left, and_right, same_tests}
use Rattle.job_laws.proofs.Checked.{facts}
use Rattle.text_laws.specs.Outcomes.{NoCause}
use Rattle.strip_laws.proofs.Runs.{runs_agree}
use Rattle.strip_laws.proofs.Strips.{strips_maximal}
use Rattle.text_laws.proofs.Causes.{none_then, refused_then}
use Rattle.pair_overlap.specs.Meet.{strip_at, shifted, stretches_meet, Ordered}
use Rattle.pair_overlap.specs.declared.Corner.{Corner}
use Rattle.pair_overlap.specs.Seen.{entries}
use Rattle.pair_overlap.proofs.Walk.{Meeting, meet_facts, facts_meet, StripsMeet, meet_stretches, stretches_meet_lem}
use Rattle.pair_overlap.proofs.Shapes.{at_member, entries_ordered}
use Rattle.pair_nofit.specs.Marks.{meets_at}
use Rattle.pair_nofit.proofs.Marked.{first_corner, second_corner, marks_no_fit}
use Rattle.model.specs.Answers.{count_answer, first_cause}
use Rattle.pair_nofit_calls.specs.Lines.{low_corner, high_corner, line_runs, line_outcome, line_after, stretch_causes}
use Rattle.pair_runs.specs.Runs.{offset_entry, offset_count, farthest}
use Rattle.pair_nofit_calls.proofs.Owning.{known_below}

-- ── offsets cut off at 263 ──

-- an offset goes up or down, not both
one_way : (o : ℤ) → (up o ≡ 0) ⊎ (down o ≡ 0)
one_way (pos n) = inr refl
one_way (negsuc n) = inl refl

-- two lines are at most g apart
abbrev LinesNear : ℕ → ℕ → ℕ → Type 0
LinesNear g x y = (x ≤ y + g) × (y ≤ x + g)

module _ (g : ℕ) (few : g ≤ gap_bound) (o : ℤ) (a b : ℕ) (l : a < 255) (m : b < 255) where
  -- lines below 255 are at most g apart at the offset exactly when they are so at the offset cut off
  cut_line : LinesNear g (a + down o) (b + up o) → LinesNear g (a + min (down o) farthest) (b + min (up o) farthest)
  cut_line e =
      let h = e.0 in
      let k = e.1 in
      ⊎_elim (λ (z : up o ≡ 0). (omega arith, omega arith)) (λ (z : down o ≡ 0). (omega arith, omega arith)) (one_way o)

  line_cut : LinesNear g (a + min (down o) farthest) (b + min (up o) farthest) → LinesNear g (a + down o) (b + up o)
  line_cut e =
      let h = e.0 in
      let k = e.1 in
      ⊎_elim (λ (z : up o ≡ 0). (omega arith, omega arith)) (λ (z : down o ≡ 0). (omega arith, omega arith)) (one_way o)

-- a strip of a shape of at most 255 lines lies in a line below 255
strip_line : (d : Direction) (z : Shape) → extent (other d) z ≤ 255 → (i : ℕ) → i < length (entries d z) → (strip_at (entries d z) i).line < 255
strip_line d z h i l = let m = (strips_maximal d z _ (at_member (strips d z) i l)).line in omega arith

module _ (g : ℕ) (d : Direction) (s t : Shape) (lines : extent (other d) s ≤ 255) (lines' : extent (other d) t ≤ 255) where
  -- stretches that meet do so at other corners too, as far along the strips, if lines at most g apart stay so
  meet_moved : (x y x' y' : Corner) → x.along ≡ x'.along → y.along ≡ y'.along
      → ((a b : ℕ) → a < 255 → b < 255 → LinesNear g (a + x.across) (b + y.across) → LinesNear g (a + x'.across) (b + y'.across))
      → stretches_meet g (entries d s) x (entries d t) y ≡ true → stretches_meet g (entries d s) x' (entries d t) y' ≡ true
  meet_moved x y x' y' p q near e =
      let w : StripsMeet g (entries d s) x (entries d t) y = stretches_meet_lem g (entries d s) x (entries d t) y e in
      let m : Meeting g (strip_at (entries d s) w.i) x (strip_at (entries d t) w.j) y = meet_facts g _ x _ y w.meets in
      let n = near _ _ (strip_line d s lines w.i w.i_below) (strip_line d t lines' w.j w.j_below) (m.above, m.below) in
      let low = m.low in
      let high = m.high in
      meet_stretches g (entries d s) x' (entries d t) y' w.i w.j w.i_below w.j_below
      (facts_meet g _ x' _ y' record { above = n.0; below = n.1; low = omega arith; high = omega arith })

  -- at an offset cut off they meet exactly where they do at the offset
  cut_meets : g ≤ gap_bound → (o : ℤ) (k : ℕ)
      → meets_at g (entries d s) (low_corner o) (entries d t) (high_corner o) k ≡ meets_at g (entries d s) (first_corner o) (entries d t) (second_corner o) k
  cut_meets few o k =
      same_tests _ _
      (meet_moved (low_corner o) (shifted k (high_corner o)) (first_corner o) (shifted k (second_corner o)) refl refl
      (λ a b l m. line_cut g few o a b l m))
      (meet_moved (first_corner o) (shifted k (second_corner o)) (low_corner o) (shifted k (high_corner o)) refl refl
      (λ a b l m. cut_line g few o a b l m))

-- the line's runs are those of the no-fit line
line_no_fit : (g : ℕ) → g ≤ gap_bound → (d : Direction) (s t : Shape) → extent (other d) s ≤ 255 → extent (other d) t ≤ 255 → (o : ℤ)
    → line_runs g (entries d s) (entries d t) o ≡ runs (no_fit_at g d s t o) offset_count
line_no_fit g few d s t lines lines' o =
    runs_agree (meets_at g (entries d s) (low_corner o) (entries d t) (high_corner o)) (no_fit_at g d s t o) offset_count
    (λ k l. cut_meets g d s t lines lines' few o k ∙ marks_no_fit g d s t o k)

-- ── outcomes ──

map_runs : (rs : List Run) → map run_entry (map unbiased rs) ≡ map offset_entry rs
map_runs [] = refl
map_runs (r ∷ rs) = ap (λ (z : List (List ℤ)). offset_entry r ∷ z) (map_runs rs)

-- runs of offsets are given and put as the runs of biased offsets are
outcome_by : (rs : List Run) (before : List (List ℤ)) (b : Bool) → ltb (length before) (length rs) ≡ b
    → (count_answer (unless (cause wrong_length b ∷ []) rs) ≡ count_answer (unless (cause wrong_length b ∷ []) (map unbiased rs)))
    × (line_after before (unless (cause wrong_length b ∷ []) rs) ≡ runs_after before (unless (cause wrong_length b ∷ []) (map unbiased rs)))
unfolding unless
outcome_by rs before true e = (refl, refl)
outcome_by rs before false e =
    let n : length (map offset_entry rs) ≡ length rs = length-map rs offset_entry in
    let l : length rs ≤ length before = ltb-false _ _ e in
    let f : 0 + length (map offset_entry rs) ≡ length (map offset_entry rs) = omega arith in (
      ap Ok (sym (length-map rs unbiased)),
      sets-eq (map offset_entry rs) before 0 (omega arith) ∙ ap (λ (z : ℕ). map offset_entry rs ++ drop z before) f
          ∙ ap (λ (z : List (List ℤ)). filled z before) (sym (map_runs rs)),
    )

-- the line of the stretches by the gap and the call's
pub record Called (g : ℕ) (es fs : List (List ℕ)) (o : ℤ) (before : List (List ℤ)) (call : Outcome (List OffsetRun)) : Type 0 where
  pub answer : count_answer (line_outcome g es fs o (length before)) ≡ count_answer call
  pub memory : line_after before (line_outcome g es fs o (length before)) ≡ runs_after before call

-- the sides of a job's piece are at most 255
piece_lines_lem : (d : Direction) (l : Lent) (p : LentStretch) → lent_well l ≡ true → known (job_of l) p ≡ true
    → extent d (turned_piece (job_of l) p.piece p.turn) ≤ 255
piece_lines_lem d l p w e = (facts l w).turned_small d p.piece p.turn (known_below l p e)

module _ (d : Direction) (l : Lent) (p q : LentStretch) (none : NoCause (stretch_causes d l p q)) where
  well : lent_well l ≡ true
  unfolding stretch_causes
  well = not-false (lent_well l) none.0

  both_known : (known (job_of l) p && known (job_of l) q) ≡ true
  unfolding stretch_causes
  both_known = not-false _ none.1.0

  both_own : (stretch_well d (job_of l) p && stretch_well d (job_of l) q) ≡ true
  unfolding stretch_causes
  both_own = not-false _ none.1.1.0

  first_known : known (job_of l) p ≡ true
  first_known = and_left (known (job_of l) p) (known (job_of l) q) both_known

  second_known : known (job_of l) q ≡ true
  second_known = and_right (known (job_of l) p) (known (job_of l) q) both_known

  -- the stretches are the pieces' strips
  first_is : p.stretch ≡ entries d (turned_piece (job_of l) p.piece p.turn)
  unfolding stretch_well
  first_is = same_entries_lem p.stretch _ (and_left (stretch_well d (job_of l) p) (stretch_well d (job_of l) q) both_own)

  second_is : q.stretch ≡ entries d (turned_piece (job_of l) q.piece q.turn)
  unfolding stretch_well
  second_is = same_entries_lem q.stretch _ (and_right (stretch_well d (job_of l) p) (stretch_well d (job_of l) q) both_own)

  pub first_ordered : Ordered p.stretch
  first_ordered = subst Ordered (sym first_is) (entries_ordered d _ (piece_lines_lem d l p well first_known))

  pub second_ordered : Ordered q.stretch
  second_ordered = subst Ordered (sym second_is) (entries_ordered d _ (piece_lines_lem d l q well second_known))

  -- the gap is at most 8
  pub gap_small_lem : l.size.gap ≤ gap_bound
  gap_small_lem = (facts l well).small_gap

  -- so their line is the call's
  pub line_called : (o : ℤ) (before : List (List ℤ)) → Called l.size.gap p.stretch q.stretch o before (no_fit_call d l p q o (length before))
  unfolding no_fit_call no_fit_of no_fit stretch_causes job_of
  line_called o before =
      let s : Shape = turned_piece (job_of l) p.piece p.turn in
      let t : Shape = turned_piece (job_of l) q.piece q.turn in
      let g : ℕ = l.size.gap in
      let r : line_runs g p.stretch q.stretch o ≡ runs (no_fit_at g d s t o) offset_count =
      ap₂ (λ (x y : List (List ℕ)). line_runs g x y o) first_is second_is
      ∙ line_no_fit g gap_small_lem d s t (piece_lines_lem (other d) l p well first_known) (piece_lines_lem (other d) l q well second_known) o in
      let rs : List Run = line_runs g p.stretch q.stretch o in
      let n : List OffsetRun = map unbiased rs in
      let call : no_fit_call d l p q o (length before) ≡ unless (at_least (length rs) (length before) ∷ []) n =
      none_then (stretch_causes d l p q) (at_least (length (no_fit_of d (job_of l) p q o)) (length before) ∷ []) (no_fit_of d (job_of l) p q o) none
      ∙ ap (λ (z : List Run). unless (at_least (length (map unbiased z)) (length before) ∷ []) (map unbiased z)) (sym r)
      ∙ ap (λ (z : ℕ). unless (at_least z (length before) ∷ []) n) (length-map rs unbiased) in
      let both = outcome_by rs before (ltb (length before) (length rs)) refl in
      record { answer = both.0 ∙ ap count_answer (sym call); memory = both.1 ∙ ap (runs_after before) (sym call) }

-- a refusal before the room is asked for refuses the call
pub refused_called : (d : Direction) (l : Lent) (p q : LentStretch) (o : ℤ) (room : ℕ) (r : Refusal) → Err r ≡ first_cause (stretch_causes d l p q)
    → no_fit_call d l p q o room ≡ refused r
unfolding no_fit_call stretch_causes
refused_called d l p q o room r e =
    refused_then (stretch_causes d l p q) (at_least (length (no_fit_of d (job_of l) p q o)) room ∷ []) (no_fit_of d (job_of l) p q o) r e
