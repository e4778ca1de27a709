-- Document 01, 'Job text' (the table and the pixel store) and 'Sheet and panels' (a box that is not loose): where a piece's pixels
-- begin in the store, parts of the store, and boxes that agree. Assumes nothing.
use Rattle.list_laws.proofs.Kit.{◌∙◌, ◌≡◌, ap, ap₂, Bool, ◌&&◌, List, ◌∷◌, ◌*◌, ◌+◌, ◌-◌, ◌<◌, suc, ℕ, arith, get_or}
use Rattle.model.specs.Bounded.{any_below}
use Rattle.model.specs.Piece.{Shape, tight, tight_along, holds, extent, other}
use Rattle.model.specs.Lent.{entry_area, pixel_start}
use Rattle.model.specs.declared.Direction.{Direction}
use Rattle.model.specs.declared.Direction.TheVariants.{Horizontal, Vertical}
use Rattle.list_laws.proofs.Sums.{sum_first}
use Rattle.list_laws.proofs.Bounded.{any_agree}
use Rattle.text_laws.specs.Texts.{Agree}

-- ── where pixels begin ──

-- behind a first entry every piece's pixels begin later by that entry's area
pub start_after : (e : List ℕ) (table : List (List ℕ)) (i : ℕ) → pixel_start (e ∷ table) (suc i) ≡ get_or e 0 0 * get_or e 1 0 + pixel_start table i
unfolding pixel_start
start_after e table i = sum_first i (entry_area (e ∷ table))

-- ── a row of a box ──

-- ── boxes that agree ──

-- their lines hold a pixel alike
holds_agree : (d : Direction) (s t : Shape) → Agree s t → (c : ℕ) → c < extent (other d) t → holds d s c ≡ holds d t c
holds_agree Horizontal s t a c l =
    ap (λ (n : ℕ). any_below n (λ x. s.has x c)) a.columns ∙ any_agree t.columns (λ x. s.has x c) (λ x. t.has x c) (λ x h. a.has x c h l)
holds_agree Vertical s t a c l =
    ap (λ (n : ℕ). any_below n (λ y. s.has c y)) a.rows ∙ any_agree t.rows (λ y. s.has c y) (λ y. t.has c y) (λ y h. a.has c y l h)

-- the box has a line in each direction
extent_some : (d : Direction) (s t : Shape) → Agree s t → 0 < extent d t
extent_some Horizontal s t a = a.wide
extent_some Vertical s t a = a.high

-- the boxes have the same sides
extent_same : (d : Direction) (s t : Shape) → Agree s t → extent d s ≡ extent d t
extent_same Horizontal s t a = a.columns
extent_same Vertical s t a = a.rows

-- their first and last lines hold a pixel alike
tight_along_agree : (d : Direction) (s t : Shape) → Agree s t → tight_along d s ≡ tight_along d t
tight_along_agree d s t a =
    let n : ℕ = extent (other d) t in
    let h : 0 < n = extent_some (other d) s t a in
    ap₂ (λ (p q : Bool). p && q) (holds_agree d s t a 0 h)
    (ap (λ (m : ℕ). holds d s (m - 1)) (extent_same (other d) s t a) ∙ holds_agree d s t a (n - 1) (omega arith))

-- they are tight alike
pub tight_agree : (s t : Shape) → Agree s t → tight s ≡ tight t
unfolding tight
tight_agree s t a = ap₂ (λ (p q : Bool). p && q) (tight_along_agree Horizontal s t a) (tight_along_agree Vertical s t a)
