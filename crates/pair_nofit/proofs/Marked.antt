-- The marks of a line: where all intervals are marked and none is wrong, a place is marked exactly when strips are at most the gap apart there.
-- For the strips of pixel sets, the marks from the largest negative offset on are the no-fit line. Assumes nothing.
use Rattle.list_laws.proofs.Kit.{◌∙◌, ◌≡◌, ap, ap₂, sym, ⊎_elim, List, ◌+◌, ℕ, arith, length, length-replicate, replicate, ℤ}
use Rattle.model.specs.Piece.{Shape, point}
use Rattle.model.specs.Overlap.{no_fit_at, offset_bound, up, down}
use Rattle.model.specs.declared.Direction.{Direction}
use Rattle.list_laws.proofs.Tests.{clash, same_tests}
use Rattle.bit_laws.specs.Bit.{bit_in}
use Rattle.overlap_laws.proofs.Share.{along_point, across_point}
use Rattle.pair_overlap.specs.Meet.{shifted, stretches_meet}
use Rattle.pair_overlap.specs.declared.Corner.{Corner}
use Rattle.pair_overlap.specs.Seen.{entries, seen}
use Rattle.pair_overlap.proofs.Shapes.{entries_conflict}
use Rattle.pair_nofit.specs.Marks.{meets_at, GapMarked, ShiftsMarked}
use Rattle.pair_nofit.proofs.Kept.{noughts_clear}

-- words of 0, with all intervals marked
pub marks_made : (g : ℕ) (es : List (List ℕ)) (u : Corner) (fs : List (List ℕ)) (v : Corner) (before cleared after : List ℕ)
    → cleared ≡ replicate (length before) 0 → GapMarked g es u fs v cleared after → ShiftsMarked g es u fs v before after
marks_made g es u fs v before cleared after e w =
    let many : length after ≡ length before = w.same ∙ ap length e ∙ length-replicate {A = ℕ} (length before) 0 in
    record {
      same = many;
      each = λ m l.
          same_tests (bit_in after m) (meets_at g es u fs v m)
          (λ h.
          ⊎_elim (λ r. absurd (clash r (ap (λ (z : List ℕ). bit_in z m) e ∙ noughts_clear (length before) m (omega arith)))) (λ r. r) (w.sound m h))
          (w.kept m l);
    }

-- ── no-fit lines ──

-- the corners at which the marks are those of the no-fit line at an offset across
abbrev pub first_corner : ℤ → Corner
first_corner o = record { along = offset_bound; across = down o }

abbrev pub second_corner : ℤ → Corner
second_corner o = record { along = 0; across = up o }

-- a corner made of its coordinates
seen_point : (d : Direction) (a c : ℕ) → seen d (point d a c) ≡ record { along = a; across = c }
seen_point d a c =
    let e : ◌≡◌ {A = ℕ} _ a = along_point d a c in
    let f : ◌≡◌ {A = ℕ} _ c = across_point d a c in
    λ i. record { along = e i; across = f i }

-- they conflict at the biased offset k exactly when the no-fit line has it
pub marks_no_fit : (g : ℕ) (d : Direction) (s t : Shape) (o : ℤ) (k : ℕ)
    → meets_at g (entries d s) (first_corner o) (entries d t) (second_corner o) k ≡ no_fit_at g d s t o k
unfolding no_fit_at
marks_no_fit g d s t o k =
    let z : 0 + k ≡ k = omega arith in
    let e : shifted k (second_corner o) ≡ seen d (point d k (up o)) = (λ i. record { along = z i; across = up o }) ∙ sym (seen_point d k (up o)) in
    ap₂ (λ (x y : Corner). stretches_meet g (entries d s) x (entries d t) y) (sym (seen_point d offset_bound (down o))) e
    ∙ entries_conflict g d s (point d offset_bound (down o)) t (point d k (up o))
