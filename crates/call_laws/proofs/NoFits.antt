-- Document 02, point 5: the runs that a no-fit call leaves in the caller's buffer are those of the no-fit row or column, whose offsets lie between -254
-- and 254 but for the gap; so do a run's first and last, since it is not empty. Assumes nothing.
use Rattle.std.specs.Prelude.{Result, Ok}
use Rattle.model.specs.declared.Refusal.{Refusal}
use Rattle.list_laws.proofs.Kit.{◌∙◌, ◌≡◌, refl, subst, sym, List, Memᴰ, [], map, ◌<◌, ℕ, arith, get_or-append, drop, get_or, length}
use Rattle.list_laws.proofs.Kit.{length-map, ◌+ℤ◌, pos, ℤ}
use Rattle.list_laws.proofs.Lists.{member_at, Source, map_source}
use Rattle.model.specs.Piece.{Shape}
use Rattle.model.specs.Overlap.{OffsetRun}
use Rattle.model.specs.Buffer.{run_entry, filled}
use Rattle.model.specs.Answers.{count_answer}
use Rattle.model.specs.Lent.{Lent, job_of}
use Rattle.model.specs.Refusal.{Outcome, refused, given}
use Rattle.model.specs.Calls.{LentStretch, no_fit_of, no_fit_call, runs_after}
use Rattle.model.specs.declared.Direction.{Direction}
use Rattle.job_laws.proofs.Checked.{lent_gap}
use Rattle.text_laws.proofs.Outcomes.{given_unless}
use Rattle.overlap_laws.specs.NoFit.{offset_reach, NoFitLine}
use Rattle.overlap_laws.proofs.Whole.{pred_whole, add_whole, whole_le, whole_lt}
use Rattle.call_laws.specs.NoFits.{last_offset, RunWithin, OffsetsWithin}
use Rattle.call_laws.proofs.Layouts.{job_well}
use Rattle.call_laws.proofs.Overlaps.{no_fit_given}

-- a run of a no-fit line lies within its range
run_within : {g : ℕ} {d : Direction} {s t : Shape} {o : ℤ} {rs : List OffsetRun} → NoFitLine g d s t o rs → (r : OffsetRun) → Memᴰ r rs
    → RunWithin (offset_reach g) (run_entry r)
run_within line r m =
    let last : ℤ = last_offset (run_entry r) in
    let some : 0 < r.count = (line.maximal r m).some in
    let sum = add_whole r.first r.count in
    let before = pred_whole (r.first +ℤ pos r.count) in
    record {
      some = whole_lt (pos 0) (pos r.count) (omega arith);
      first =
          line.in_range r.first
          record { run = r; listed = m; low = whole_le r.first r.first (omega arith); high = whole_lt r.first _ (omega arith) };
      last = line.in_range last record { run = r; listed = m; low = whole_le r.first last (omega arith); high = whole_lt last _ (omega arith) };
    }

-- so does each run in the front of a buffer that such a line fills
front_within : {g : ℕ} {d : Direction} {s t : Shape} {o : ℤ} (rs : List OffsetRun) → NoFitLine g d s t o rs → (before : List (List ℤ)) (k : ℕ)
    → k < length rs → RunWithin (offset_reach g) (get_or (filled (map run_entry rs) before) k [])
front_within {g = g} rs line before k h =
    let es : List (List ℤ) = map run_entry rs in
    let below : k < length es = omega (arith, length-map rs run_entry) in
    let w : Source run_entry rs (get_or es k []) = map_source run_entry rs (member_at es k [] below) in
    subst (RunWithin (offset_reach g)) (sym (get_or-append es (drop (length es) before) [] k below ∙ w.image)) (run_within line w.from w.listed)

-- the offsets that a no-fit call leaves in the buffer
pub offsets_given : (d : Direction) (l : Lent) (p q : LentStretch) (o : ℤ) (before : List (List ℤ)) (rs : List OffsetRun)
    → no_fit_call d l p q o (length before) ≡ given rs → OffsetsWithin l.size.gap (length rs) (runs_after before (no_fit_call d l p q o (length before)))
unfolding no_fit_call job_of
offsets_given d l p q o before rs e =
    let u = given_unless _ (no_fit_of d (job_of l) p q o) rs e in
    subst (λ (x : Outcome (List OffsetRun)). OffsetsWithin l.size.gap (length rs) (runs_after before x)) (sym e)
    (record { small_gap = lent_gap l (job_well l u.none.0); runs = front_within rs (no_fit_given d l p q o (length before) rs e) before })

-- what holds of the count of every list that is given holds of the count that is told
told_count : (x : Outcome (List OffsetRun)) (Q : ℕ → Type 0) → ((rs : List OffsetRun) → x ≡ given rs → Q (length rs)) → (n : ℕ)
    → count_answer x ≡ Ok n → Q n
told_count (refused r) Q h n e = let z : ◌≡◌ {A = ℕ} 0 1 = cc in absurd (omega arith)
told_count (given rs) Q h n e = let same : length rs ≡ n = cc in subst Q same (h rs refl)

-- an answer and a buffer that are those of the call, with what is said of the offsets that it leaves
pub offsets_answered : (d : Direction) (l : Lent) (p q : LentStretch) (o : ℤ) (before : List (List ℤ)) {after : List (List ℤ)} {r : Result ℕ Refusal}
    → r ≡ count_answer (no_fit_call d l p q o (length before)) → after ≡ runs_after before (no_fit_call d l p q o (length before))
    → (r ≡ count_answer (no_fit_call d l p q o (length before))) × ((after ≡ runs_after before (no_fit_call d l p q o (length before)))
    × ((n : ℕ) → r ≡ Ok n → OffsetsWithin l.size.gap n after))
offsets_answered d l p q o before {after} {r} answer memory =
    let call : Outcome (List OffsetRun) = no_fit_call d l p q o (length before) in
    let counted = told_count call (λ (m : ℕ). OffsetsWithin l.size.gap m (runs_after before call)) (offsets_given d l p q o before) in
    (answer, (memory, λ n e. rw memory (counted n (sym answer ∙ e))))
