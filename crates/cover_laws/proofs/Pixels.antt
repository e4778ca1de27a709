-- Document 01, 'Sheet and panels' and 'Start, layout text, sheet': the counts stand row by row, so that pixel (x, y) of a sheet of L
-- columns has the number y × L + x, and each number below W × L is that of just one pixel. Assumes nothing.
use Rattle.list_laws.proofs.Kit.{◌∙◌, ◌≡◌, ap, ◌%◌, ◌*◌, ◌+◌, ◌/◌, ◌<◌, ℕ, div-add-mod', div-eq_of_lt, div-lt_iff_lt-mul, mod-eq_of_lt, mod-lt}
use Rattle.list_laws.proofs.Kit.{mul-add-div_right, mul-add-mod_self_right, mul_comm, mul-le-mul_right, arith}
use Rattle.model.specs.Piece.{Point}
use Rattle.model.specs.Layout.{Job}
use Rattle.model.specs.Cover.{pixel_at}
use Rattle.list_laws.proofs.Numbers.{factor_positive}

-- the pixel with number y × L + x is (x, y)
pub pixel_at_lem : (j : Job) (x y : ℕ) → x < j.size.columns → pixel_at j (y * j.size.columns + x) ≡ record { x = x; y = y }
pixel_at_lem j x y l =
    let some : 0 < j.size.columns = omega arith in
    let column : (y * j.size.columns + x) % j.size.columns ≡ x = mul-add-mod_self_right y j.size.columns x ∙ mod-eq_of_lt l in
    let row : (y * j.size.columns + x) / j.size.columns ≡ y = mul-add-div_right some y x ∙ ap (λ (q : ℕ). y + q) (div-eq_of_lt l) ∙ omega arith in
    λ i. record { x = column i; y = row i }

-- the number of a pixel of the sheet is below W × L
pub number_below : (j : Job) (x y : ℕ) → x < j.size.columns → y < j.size.rows → y * j.size.columns + x < j.size.rows * j.size.columns
number_below j x y l l' = omega (arith, mul-le-mul_right j.size.columns l')

-- q is a pixel of the sheet and has the number k
pub record PixelOnSheet (j : Job) (k : ℕ) (q : Point) : Type 0 where
  pub column : q.x < j.size.columns
  pub row : q.y < j.size.rows
  pub number : q.y * j.size.columns + q.x ≡ k

-- a number below W × L is that of a pixel of the sheet
pub number_pixel : (j : Job) (k : ℕ) → k < j.size.rows * j.size.columns → PixelOnSheet j k (pixel_at j k)
number_pixel j k l =
    let some : 0 < j.size.columns =
    factor_positive j.size.columns j.size.rows (omega (arith, mul_comm j.size.rows j.size.columns)) in
    record { column = mod-lt k some; row = (div-lt_iff_lt-mul some).1 l; number = div-add-mod' k j.size.columns }
