-- `text_fields::writing::put_decimal`: the digits in front are those of a tenth of the number, in one place less.
use Rattle.list_laws.proofs.Kit.{◌∙◌, ◌≡◌, ap, [], ◌++◌, ◌∷◌, ◌%◌, ◌+◌, ◌-◌, ◌/◌, suc, ℕ, arith, length, length-append, sets}
use Rattle.model.specs.Text.{decimal}
use Rattle.list_laws.proofs.Stores.{sets_append}
use Rattle.text_fields.proofs.Steps.{decimal_none, decimal_one, decimal_more, decimal_short}
use Rattle.text_fields.proofs.writing.+put_decimal.Goals as goal

pub returns-then-places-eq0 : goal.returns-then-places-eq0
returns-then-places-eq0 t c =
    let a = c.args in
    let d : decimal a.places a.k ≡ [] = rw c.if-places-eq0.true (decimal_none a.k) in
    (rw d (omega arith), rw d)

pub returns-then-k-lt10 : goal.returns-then-k-lt10
returns-then-k-lt10 t c =
    let a = c.args in
    let e : a.places ≡ suc (a.places - 1) = omega arith in
    let d : decimal a.places a.k ≡ (48 + a.k) ∷ [] =
    ap (λ (p : ℕ). decimal p a.k) e ∙ decimal_one (a.places - 1) a.k c.if-k-lt10.true in
    let b : c.digit.result ≡ 48 + a.k = c.digit.ensures in
    (rw d c.put_byte.ensures.0, rw (d, ← b) c.put_byte.ensures.1)

pub put_byte-requires-2 : goal.put_byte-requires-2
put_byte-requires-2 t c =
    let a = c.args in
    let s = decimal_short (a.places - 1) (a.k / 10) in
    let e : c.put_decimal-next.result ≡ a.at + length (decimal (a.places - 1) (a.k / 10)) = c.put_decimal-next.ensures.0 in
    omega arith

pub returns : goal.returns
returns t c =
    let a = c.args in
    let e : a.places ≡ suc (a.places - 1) = omega arith in
    let ds = decimal (a.places - 1) (a.k / 10) in
    let d : decimal a.places a.k ≡ ds ++ ((48 + (a.k % 10)) ∷ []) =
    ap (λ (p : ℕ). decimal p a.k) e ∙ decimal_more (a.places - 1) a.k c.if-k-lt10.false in
    let b : c.digit-2.result ≡ 48 + (a.k % 10) = c.digit-2.ensures in
    let n : c.put_decimal-next.result ≡ a.at + length ds = c.put_decimal-next.ensures.0 in
    let w : c.put_decimal-next.new.text ≡ sets a.text.now a.at ds = c.put_decimal-next.ensures.1 in
    let r : c.put_byte-2.result ≡ c.put_decimal-next.result + 1 = c.put_byte-2.ensures.0 in (
      rw (d, length-append) (omega arith),
      c.put_byte-2.ensures.1 ∙ rw (d, sets_append, ← b, ← w, ← n),
    )
