-- Two placed pieces whose boxes are farther apart than the gap do not conflict. Assumes nothing.
use Rattle.list_laws.proofs.Kit.{◌≡◌, ◌&&◌, false, ◌+◌, ℕ, arith, ltb, lt-ltb}
use Rattle.model.specs.Piece.{Point, Shape, along, extent}
use Rattle.model.specs.Overlap.{conflict}
use Rattle.model.specs.declared.Direction.{Direction}
use Rattle.list_laws.proofs.Tests.{and_both, clash, fails}
use Rattle.overlap_laws.specs.Overlap.{NearPixels}
use Rattle.overlap_laws.proofs.Share.{pixel_along}
use Rattle.overlap_laws.proofs.Grown.{conflict_witness, near_along}

-- boxes that are farther apart along a direction
pub boxes_apart : (g : ℕ) (d : Direction) (s : Shape) (u : Point) (t : Shape) (v : Point)
    → (ltb (along d u) (along d v + extent d t + g) && ltb (along d v) (along d u + extent d s + g)) ≡ false → conflict g s u t v ≡ false
boxes_apart g d s u t v e =
    fails (conflict g s u t v)
    (λ f.
    let w : NearPixels g s u t v = conflict_witness g s u t v f in
    let near = near_along d w in
    let first = pixel_along d s w.p w.of_first in
    let second = pixel_along d t w.q w.of_second in
    clash (and_both (lt-ltb (along d u) (along d v + extent d t + g) (omega arith)) (lt-ltb (along d v) (along d u + extent d s + g) (omega arith))) e)
