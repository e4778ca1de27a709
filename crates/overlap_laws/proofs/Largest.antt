-- Document 02, point 4: the largest penalty. Two pieces of one job have boxes of at most 65,536 pixels together, so they cannot both be long and high: if the
-- lengths came to 384 and the heights too, the boxes would be too large. So one of the depths is at most half of 383 and twice the gap, 199,
-- though a depth alone may be 263. Boxes of 255 × 128 and 128 × 255 reach it. Assumes nothing.
use Rattle.list_laws.proofs.Kit.{◌≡◌, ⊎_elim, ◌⊎◌, inl, inr, ◌+◌, ◌-◌, ◌*◌, ◌<◌, ◌≤◌, ℕ, add-mul}
use Rattle.list_laws.proofs.Kit.{mul-add, mul_comm, mul-le-mul, arith, leb, leb-true, leb-false}
use Rattle.list_laws.proofs.Tests.{decided}
use Rattle.model.specs.Piece.{Point, Shape, extent}
use Rattle.model.specs.Overlap.{conflict_penalty}
use Rattle.model.specs.declared.Direction.{Direction}
use Rattle.model.specs.declared.Direction.TheVariants.{Horizontal, Vertical}
use Rattle.overlap_laws.specs.Grown.{grown}
use Rattle.overlap_laws.proofs.Depth.{depth_half}
use Rattle.overlap_laws.proofs.Grown.{depth_grown, grown_extent}
use Rattle.overlap_laws.proofs.Penalty.{conflict_penalty_le}

-- ── sides ──

-- the product of sums, multiplied out
product : (a b c d : ℕ) → (a + b) * (c + d) ≡ a * c + a * d + (b * c + b * d)
product a b c d = omega (arith, add-mul a b (c + d), mul-add a c d, mul-add b c d)

-- for x and y up to 126: of 63 each x and y cost at most what x times y and 7,938 give
corner_cost : (x y : ℕ) → x ≤ 126 → y ≤ 126 → 63 * x + 63 * y ≤ 7938 + x * y
corner_cost x y h k =
    ⊎_elim
    (λ e.
    let l : y ≤ 63 = leb-true y 63 e in
    let z : ℕ = 63 - y in
    let m : x * z ≤ 126 * z = mul-le-mul h (omega arith) in
    let s : x * (y + z) ≡ x * y + x * z = mul-add x y z in
    let whole : y + z ≡ 63 = omega arith in
    let r : x * 63 ≡ x * y + x * z = rw whole at s in
    omega (arith, m, r, whole))
    (λ e.
    let l = leb-false y 63 e in
    let z : ℕ = y - 63 in
    let whole : 63 + z ≡ y = omega arith in
    let s : x * (63 + z) ≡ x * 63 + x * z = mul-add x 63 z in
    let r : x * y ≡ x * 63 + x * z = rw whole at s in
    omega (arith, r))
    (decided (leb y 63))

-- boxes of sides up to 255 whose lengths come to 384 and whose heights do have more than 65,536 pixels together
too_large : (l w l' w' : ℕ) → l ≤ 255 → w ≤ 255 → l' ≤ 255 → w' ≤ 255 → 384 ≤ l + l' → 384 ≤ w + w' → 65536 < l * w + l' * w'
too_large l w l' w' a b c d p q =
    let x : ℕ = 255 - l in
    let y : ℕ = 255 - w in
    let lx : l + x ≡ 255 = omega arith in
    let wy : w + y ≡ 255 = omega arith in
    let first : (l + x) * (w + y) ≡ l * w + l * y + (x * w + x * y) = product l x w y in
    let square : 255 * 255 ≡ l * w + l * y + (x * w + x * y) = rw (lx, wy) at first in
    let upper : (l + x) * y ≡ l * y + x * y = add-mul l x y in
    let upper' : 255 * y ≡ l * y + x * y = rw lx at upper in
    let right : x * (w + y) ≡ x * w + x * y = mul-add x w y in
    let right' : x * 255 ≡ x * w + x * y = rw wy at right in
    let second : (129 + x) * (129 + y) ≤ l' * w' = mul-le-mul (omega arith) (omega arith) in
    let parts : (129 + x) * (129 + y) ≡ 129 * 129 + 129 * y + (x * 129 + x * y) = product 129 x 129 y in
    let cost : 63 * x + 63 * y ≤ 7938 + x * y = corner_cost x y (omega arith) (omega arith) in
    omega (arith, square, upper', right', second, parts, cost)

-- two boxes of one job: their lengths come to at most 383, or their heights do
pub sides_small : (l w l' w' : ℕ) → l ≤ 255 → w ≤ 255 → l' ≤ 255 → w' ≤ 255 → l * w + l' * w' ≤ 65536 → (l + l' ≤ 383) ⊎ (w + w' ≤ 383)
sides_small l w l' w' a b c d together =
    ⊎_elim
    (λ e. inl (leb-true (l + l') 383 e))
    (λ e.
    ⊎_elim
    (λ f. inr (leb-true (w + w') 383 f))
    (λ f.
    let p = leb-false (l + l') 383 e in
    let q = leb-false (w + w') 383 f in
    absurd (omega (arith, too_large l w l' w' a b c d (omega arith) (omega arith))))
    (decided (leb (w + w') 383)))
    (decided (leb (l + l') 383))

-- ── the penalty ──

-- a depth where the sides along the direction come to at most 383
depth_small : (g : ℕ) (d : Direction) (s : Shape) (u : Point) (t : Shape) (v : Point) → g ≤ 8 → extent d s + extent d t ≤ 383
    → conflict_penalty g s u t v ≤ 199
depth_small g d s u t v h few =
    let half = depth_half d (grown g s) u (grown g t) v 199 (omega (arith, grown_extent d g s, grown_extent d g t)) in
    omega (arith, half, conflict_penalty_le g s u t v d, depth_grown g d s u t v)

-- the penalty of two pieces of one job is at most 199
pub penalty_largest : (g : ℕ) (s : Shape) (u : Point) (t : Shape) (v : Point) → g ≤ 8 → s.columns ≤ 255 → s.rows ≤ 255 → t.columns ≤ 255
    → t.rows ≤ 255 → s.columns * s.rows + t.columns * t.rows ≤ 65536 → conflict_penalty g s u t v ≤ 199
penalty_largest g s u t v h a b c d together =
    ⊎_elim (depth_small g Horizontal s u t v h) (depth_small g Vertical s u t v h)
    (sides_small s.columns s.rows t.columns t.rows a b c d together)
