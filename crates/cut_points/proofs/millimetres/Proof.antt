-- `cut_points::millimetres` meets its contract: the product of a line and a pitch is below 2 ^ 48, so an f64 holds it, and by cut_laws'
-- Millimetres its sixty-fourth part too. Assumes nothing.
use Rattle.list_laws.proofs.Kit.{◌∙◌, ◌≡◌, ap, sym, false, refl, ◌*◌, ◌<◌, ◌≤◌, ◌^◌, ℕ, pos, arith, le→leb, mul-le-mul}
use lib.Ieee.{binary64, of_bits, of_int, in_float, div, fin}
use Rattle.model.specs.Cut.{millimetres}
use Rattle.cut_laws.proofs.Millimetres.{sixty_four, millimetres_exact}
use Rattle.cut_points.proofs.millimetres.Statement.{statement}
use Rattle.cut_points.proofs.millimetres.Tie as tie

-- the product is below 2 ^ 48
product : (line pitch : ℕ) → line < 2 ^ 16 → pitch < 2 ^ 32 → line * pitch < 2 ^ 48
product line pitch h k =
    let a : line ≤ 65535 = omega arith in
    let b : pitch ≤ 4294967295 = omega arith in
    let c = mul-le-mul a b in omega arith

-- the literal 64.0
literal : of_bits binary64 4634204016564240384 ≡ fin false 1 (pos 6)
unfolding of_bits
literal = refl

-- the quotient by it is the definition's
divided : (line pitch : ℕ) → div binary64 (of_int binary64 (pos (line * pitch))) (of_bits binary64 4634204016564240384) ≡ millimetres line pitch
unfolding millimetres
divided line pitch = ap (div binary64 (of_int binary64 (pos (line * pitch)))) (literal ∙ sym sixty_four)

-- of the function's two numbers
small : (s : tie.Start) → s.args.line * s.args.pitch < 2 ^ 48
small s =
    let line : s.args.line < 2 ^ 16 = omega arith in
    let pitch : s.args.pitch < 2 ^ 32 = omega arith in product s.args.line s.args.pitch line pitch

overflow_mul-whole : tie.Need-overflow_mul-whole
overflow_mul-whole c = let h = small c in omega arith

int_to_float-result : tie.Need-int_to_float-result
unfolding in_float
int_to_float-result c = le→leb (c.before.args.line * c.before.args.pitch) (2 ^ 53) (let h = small c.before in omega arith)

returns : tie.Need-returns
returns c =
    let a = c.before.args in
    let is : div binary64 (of_int binary64 (pos (a.line * a.pitch))) (of_bits binary64 4634204016564240384) ≡ millimetres a.line a.pitch =
    divided a.line a.pitch in
    (is, rw is (millimetres_exact a.line a.pitch (let h = small c.before in omega arith)))

pub millimetres_spec : {M : Type 1} → statement M
millimetres_spec = tie.close (tie.spec
    overflow_mul-whole int_to_float-result returns)
