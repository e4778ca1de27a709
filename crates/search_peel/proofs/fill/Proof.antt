-- `search_peel::fill` meets its contract: each turn fills the lowest place and clears its bit. Assumes nothing.
use Rattle.list_laws.proofs.Kit.{◌∙◌, ◌≡◌, refl, sym, true, ◌+◌, ◌<◌, ℕ, arith, get_or, length, length-set, get_or-set_other}
use Rattle.list_laws.proofs.Tests.{and_left}
use lib.Count.{count_trailing_zeros, trailing_le}
use Rattle.bit_laws.specs.Bit.{bit_at, length_limit}
use Rattle.bit_laws.proofs.Lowest.{trailing_set, bit_cleared, cleared_lt}
use Rattle.search_peel.proofs.Places.{Owes, fill_step, fill_end}
use Rattle.search_peel.proofs.fill.Statement.{statement}
use Rattle.search_peel.proofs.fill.Tie as tie

abbrev invariant-loop-left : tie.invariant-loop-left
invariant-loop-left line₀ at m v left₀ line left =
    (length line ≡ length line₀) × (left < 18446744073709551616) × ((x : ℕ) → Owes at left v line x ≡ Owes at m v line₀ x)
    × ((x : ℕ) → bit_at left x ≡ true → at + x < length line₀) × ((k : ℕ) → k < at → get_or line k 0 ≡ get_or line₀ k 0)

abbrev decreases-loop-left : tie.decreases-loop-left
decreases-loop-left line₀ at m v left₀ line left = left

loop-left-init : tie.Need-loop-left-init invariant-loop-left decreases-loop-left
loop-left-init c =
    let at-start : tie.Start invariant-loop-left decreases-loop-left = search in
    (refl, omega arith, λ x. refl, at-start.requires.each, λ k l. refl)

-- the lowest set bit is one of the line's places
inside : (c : tie.In-loop-left invariant-loop-left decreases-loop-left)
    →
    let at-start : tie.Start invariant-loop-left decreases-loop-left = search in
    (at-start.args.at + count_trailing_zeros 64 c.before.loop-left.left < length at-start.args.line.now) × (length at-start.args.line.now < length_limit)
inside c =
    let at-start : tie.Start invariant-loop-left decreases-loop-left = search in
    let o = c.before.loop-left in
    (o.invariant.3 _ (trailing_set 64 o.left (omega arith) o.invariant.1), at-start.requires.small)

overflow_cast-x : tie.Need-overflow_cast-x invariant-loop-left decreases-loop-left
overflow_cast-x c = omega (arith, trailing_le 64 c.before.loop-left.left)

overflow_add-line : tie.Need-overflow_add-line invariant-loop-left decreases-loop-left
overflow_add-line c = let h = inside c in omega arith

bounds-line-at : tie.Need-bounds-line-at invariant-loop-left decreases-loop-left
bounds-line-at c = let h = inside c in omega arith

loop-left-smaller : tie.Need-loop-left-smaller invariant-loop-left decreases-loop-left
loop-left-smaller c = cleared_lt c.before.loop-left.left (omega arith)

loop-left-preserved : tie.Need-loop-left-preserved invariant-loop-left decreases-loop-left
loop-left-preserved c =
    let at-start : tie.Start invariant-loop-left decreases-loop-left = search in
    let a = at-start.args in
    let o = c.before.loop-left in
    let h = inside c in (
      simp length-set o.invariant.0,
      omega (arith, cleared_lt o.left (omega arith)),
      λ x. fill_step a.at o.left a.v o.line c.loop-left-test.true o.invariant.1 (omega arith) x ∙ o.invariant.2 x,
      λ x e. o.invariant.3 x (and_left (bit_at o.left x) _ (sym (bit_cleared 64 o.left x (omega arith) o.invariant.1) ∙ e)),
      λ k l. get_or-set_other o.line _ k _ 0 (λ e. omega arith) ∙ o.invariant.4 k l,
    )

shape_of-line : tie.Need-shape_of-line invariant-loop-left decreases-loop-left
shape_of-line c = c.before.loop-left.invariant.0

returns : tie.Need-returns invariant-loop-left decreases-loop-left
returns c =
    let o = c.before.loop-left in
    fill_end _ o.left _ _ _ c.loop-left-test.false o.invariant.0 _ o.invariant.2 o.invariant.4

pub fill_spec : {M : Type 1} → statement M
fill_spec =
    tie.close (tie.spec
    invariant-loop-left decreases-loop-left loop-left-init overflow_cast-x overflow_add-line bounds-line-at (omega arith) loop-left-smaller
    loop-left-preserved shape_of-line returns)
