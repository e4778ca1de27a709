-- The runs of a line's marks, and what putting them comes to. Assumes nothing.
use Rattle.std.specs.Prelude.{Ok, Err}
use Rattle.list_laws.proofs.Kit.{◌∙◌, ◌≡◌, ap, ap₂, sym, false, true, List, [], ◌++◌, map, ◌*◌, ◌<◌, ◌≤◌, min, ℕ, arith, ltb, length, length-sets}
use Rattle.list_laws.proofs.Kit.{sets, ℤ, le-ltb, lt-ltb}
use Rattle.model.specs.Strip.{Run, runs}
use Rattle.model.specs.Overlap.{offset_bound, up, down}
use Rattle.model.specs.Refusal.{refused, given, unless, wrong_length, plain_refusal}
use Rattle.model.specs.declared.Refusal.{Refusal}
use Rattle.list_laws.proofs.Lists.{nothing_before}
use Rattle.strip_laws.proofs.Runs.{runs_agree}
use Rattle.pair_overlap.specs.declared.Corner.{Corner}
use Rattle.bit_laws.specs.Bit.{bit_in}
use Rattle.pair_nofit.specs.Marks.{meets_at, ShiftsMarked}
use Rattle.model.specs.Answers.{count_answer}
use Rattle.pair_nofit_calls.specs.Lines.{low_corner, high_corner, line_runs, line_outcome, line_after}
use Rattle.pair_runs.specs.Runs.{offset_entry, offset_count, farthest, Put}

-- the runs of the marks are the line's, where there is a bit for each offset
pub marks_line : (g : ℕ) (es fs : List (List ℕ)) (o : ℤ) (x y : ℕ) (before marks : List ℕ) → x ≡ min (down o) farthest → y ≡ min (up o) farthest
    → ShiftsMarked g es (record { along = offset_bound; across = x }) fs (record { along = 0; across = y }) before marks
    → offset_count ≤ length before * 64
    → runs (bit_in marks) offset_count ≡ line_runs g es fs o
marks_line g es fs o x y before marks a b w l =
    let u : ℕ → Corner = λ z. record { along = offset_bound; across = z } in
    let v : ℕ → Corner = λ z. record { along = 0; across = z } in
    runs_agree (bit_in marks) (meets_at g es (low_corner o) fs (high_corner o)) offset_count
    (λ k h. w.each k (omega (arith, w.same)) ∙ (λ i. meets_at g es (u (a i)) fs (v (b i)) k))

-- a buffer without room stays without entries
none_stored : (rs : List Run) (last : List (List ℤ)) (needed : ℕ) → Put rs [] 0 last needed → length last ≡ 0
none_stored rs last needed p = ap length p.stored ∙ length-sets [] 0 (map offset_entry rs)

module _ (g : ℕ) (es fs : List (List ℕ)) (o : ℤ) (rs : List Run) (r : rs ≡ line_runs g es fs o) (before last : List (List ℤ)) (needed : ℕ)
    (p : Put rs [] 0 last needed) where
  -- what the buffer holds after the count: what it held
  pub counted_same : last ++ before ≡ before
  counted_same = nothing_before last before (none_stored rs last needed p)

  -- no room: refused
  pub line_short : length (last ++ before) < needed → (w : Refusal) → w ≡ plain_refusal wrong_length
      → (Err w ≡ count_answer (line_outcome g es fs o (length before)))
      × (last ++ before ≡ line_after before (line_outcome g es fs o (length before)))
  unfolding unless
  line_short l w e =
      let t : ltb (length before) (length (line_runs g es fs o)) ≡ true =
      lt-ltb (length before) (length (line_runs g es fs o)) (omega (arith, p.end, ap length r, ap length counted_same)) in
      let f : line_outcome g es fs o (length before) ≡ refused (plain_refusal wrong_length) = rw (t, unless) in
      (ap Err e ∙ ap count_answer (sym f), counted_same ∙ ap (line_after before) (sym f))

  -- room: given
  pub line_room : needed ≤ length (last ++ before) → (after : List (List ℤ)) (n : ℕ) → Put rs (last ++ before) 0 after n
      → (Ok n ≡ count_answer (line_outcome g es fs o (length before))) × (after ≡ line_after before (line_outcome g es fs o (length before)))
  unfolding unless
  line_room l after n q =
      let t : ltb (length before) (length (line_runs g es fs o)) ≡ false =
      le-ltb (length before) (length (line_runs g es fs o)) (omega (arith, p.end, ap length r, ap length counted_same)) in
      let f : line_outcome g es fs o (length before) ≡ given (line_runs g es fs o) = rw (t, unless) in
      let m : n ≡ length (line_runs g es fs o) = omega (arith, q.end, ap length r) in (
        ap Ok m ∙ ap count_answer (sym f),
        q.stored ∙ ap₂ (λ (b : List (List ℤ)) (z : List Run). sets b 0 (map offset_entry z)) counted_same r ∙ ap (line_after before) (sym f),
      )
