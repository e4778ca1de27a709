-- The pieces of a layout that calls take are ready to be measured: their table entries are checked, their corners lie in the sheet, and two
-- pieces of one job have together no more pixels than its boxes. Assumes nothing.
use Rattle.list_laws.proofs.Kit.{◌≡◌, ◌≢◌, sym, true, ⊎_elim, List, ◌<◌, ◌≤◌, ℕ, eq-or-lt_of_le, arith, ltb, ltb-false, ltb-true}
use Rattle.model.specs.Layout.{place_of}
use Rattle.model.specs.Lent.{Lent, lent_well, pixel_start, area_bound}
use Rattle.model.specs.Buffer.{layout_of}
use Rattle.list_laws.proofs.Tests.{decided}
use Rattle.job_laws.proofs.Checked.{facts, entry_at}
use Rattle.job_laws.proofs.Starts.{start_end}
use Rattle.descent_laws.specs.LentLayout.{Laid}
use Rattle.descent_laws.proofs.Lent.{corner_within}
use Rattle.pair_measure.specs.Ready.{MeasureReady, Together}

-- a piece of a layout that passes can be measured
pub piece_ready : (l : Lent) (es : List (List ℕ)) → Laid l es → (i : ℕ) → i < l.size.count → MeasureReady l.table i (place_of (layout_of es) i)
piece_ready l es laid i b =
    let n = (facts l laid.well).few_pieces in
    let w = corner_within l es laid i b in
    let x = w.0 in
    let y = w.1 in
    record { entry = entry_at l i laid.well b; few = omega arith; x = omega arith; y = omega arith }

-- of two of n pieces the earlier one's pixels end before the later one's begin
pub both_together : (table : List (List ℕ)) (n : ℕ) → pixel_start table n ≤ area_bound → (i k : ℕ) → i < n → k < n → i ≢ k → Together table i k
both_together table n all i k a b e =
    ⊎_elim
    (λ h. omega (arith, start_end table i k (ltb-true i k h), start_end table k n b))
    (λ h.
    ⊎_elim
    (λ (q : k ≡ i). absurd (e (sym q)))
    (λ (m : k < i). omega (arith, start_end table k i m, start_end table i n a))
    (eq-or-lt_of_le (ltb-false i k h)))
    (decided (ltb i k))

-- of two pieces of a job
pub pair_together : (l : Lent) → lent_well l ≡ true → (i k : ℕ) → i < l.size.count → k < l.size.count → i ≢ k → Together l.table i k
pair_together l w = both_together l.table l.size.count (facts l w).areas
