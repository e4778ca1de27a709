-- `text_fields::reading::number_at` makes the tests of `is_number` on the run of digits. Assumes nothing.
use Rattle.list_laws.proofs.Kit.{◌∙◌, ◌≡◌, sym, false, true, suc, add-one, arith, rules, eq-eqb, ne_eqb}
use Rattle.model.specs.Text.{byte, is_digit, is_number}
use Rattle.text_fields.proofs.Steps.{digit_inside, number_none, number_got, number_wrong}
use Rattle.text_fields.proofs.reading.number_at.Statement.{statement}
use Rattle.text_fields.proofs.reading.number_at.Tie as tie

returns-then-not-is_digit : tie.Need-returns-then-not-is_digit
returns-then-not-is_digit c =
    let at-start : tie.Start = search in
    let text = at-start.args.text.now in
    let p = at-start.args.p in
    let d : is_digit (byte text p) ≡ false = rw c.before.before.byte_at-first.ensures at (sym c.before.is_digit.ensures ∙ c.if-not-is_digit.true) in
    record { same = sym (number_none text p d); inside = omega arith; small = omega arith }

digits_from-run-requires : tie.Need-digits_from-run-requires
digits_from-run-requires c κs =
    let at-start : tie.Start = search in
    let text = at-start.args.text.now in
    let p = at-start.args.p in
    let d : is_digit (byte text p) ≡ true = rw c.before.before.byte_at-first.ensures at (sym c.before.is_digit.ensures ∙ c.if-not-is_digit.false) in
    let h = digit_inside text p d in
    omega arith

returns-then-is_digit : tie.Need-returns-then-is_digit
returns-then-is_digit c =
    let at-digits-from : tie.After-digits_from-run = search in
    let at-else1 : tie.Else-not-is_digit = search in
    let at-is-digit : tie.After-is_digit = search in
    let at-byte-at : tie.After-byte_at-first = search in
    let at-start : tie.Start = search in
    let text = at-start.args.text.now in
    let p = at-start.args.p in
    let b : at-byte-at.byte_at-first.result ≡ byte text p = at-byte-at.byte_at-first.ensures in
    let d : is_digit (byte text p) ≡ true = rw b at (sym at-is-digit.is_digit.ensures ∙ at-else1.if-not-is_digit.false) in
    let run = at-digits-from.digits_from-run.result in
    let e = at-digits-from.digits_from-run.ensures in
    let b2 : c.before.before.byte_at.result ≡ byte text run.next = c.before.before.byte_at.ensures in
    let o : is_digit (byte text run.next) ≡ true = rw b2 at (sym c.before.is_digit-2.ensures ∙ c.if-is_digit.true) in
    let n : is_number text p run.next ≡ false = rw (d, o) in
    record { same = sym (number_wrong text p run e.0 n); inside = omega arith; small = omega arith }

returns-then-first-ne48 : tie.Need-returns-then-first-ne48
returns-then-first-ne48 c =
    let at-byte-at2 : tie.After-byte_at = search in
    let at-digits-from : tie.After-digits_from-run = search in
    let at-else1 : tie.Else-not-is_digit = search in
    let at-is-digit : tie.After-is_digit = search in
    let at-byte-at : tie.After-byte_at-first = search in
    let at-start : tie.Start = search in
    let text = at-start.args.text.now in
    let p = at-start.args.p in
    let b : at-byte-at.byte_at-first.result ≡ byte text p = at-byte-at.byte_at-first.ensures in
    let d : is_digit (byte text p) ≡ true = rw b at (sym at-is-digit.is_digit.ensures ∙ at-else1.if-not-is_digit.false) in
    let run = at-digits-from.digits_from-run.result in
    let e = at-digits-from.digits_from-run.ensures in
    let b2 : at-byte-at2.byte_at.result ≡ byte text run.next = at-byte-at2.byte_at.ensures in
    let o : is_digit (byte text run.next) ≡ false = rw b2 at (sym c.before.before.is_digit-2.ensures ∙ c.before.if-is_digit.false) in
    let z = ne_eqb (byte text p) 48 (λ h. c.if-first-ne48.true (b ∙ h)) in
    let n : is_number text p run.next ≡ true = rw (d, o, z) in
    record { same = sym (number_got text p run e.0 n); inside = e.1; small = e.2 }

overflow_add-p : tie.Need-overflow_add-p
overflow_add-p c =
    let at-byte-at2 : tie.After-byte_at = search in
    let at-digits-from : tie.After-digits_from-run = search in
    let at-else1 : tie.Else-not-is_digit = search in
    let at-is-digit : tie.After-is_digit = search in
    let at-byte-at : tie.After-byte_at-first = search in
    let at-start : tie.Start = search in
    let text = at-start.args.text.now in
    let p = at-start.args.p in
    let b : at-byte-at.byte_at-first.result ≡ byte text p = at-byte-at.byte_at-first.ensures in
    let d : is_digit (byte text p) ≡ true = rw b at (sym at-is-digit.is_digit.ensures ∙ at-else1.if-not-is_digit.false) in
    let run = at-digits-from.digits_from-run.result in
    let e = at-digits-from.digits_from-run.ensures in
    let b2 : at-byte-at2.byte_at.result ≡ byte text run.next = at-byte-at2.byte_at.ensures in
    let h = digit_inside text p d in
    omega arith

returns-then-next-p : tie.Need-returns-then-next-p
returns-then-next-p c =
    let at-is-digit2 : tie.After-is_digit-2 = search in
    let at-byte-at2 : tie.After-byte_at = search in
    let at-digits-from : tie.After-digits_from-run = search in
    let at-else1 : tie.Else-not-is_digit = search in
    let at-is-digit : tie.After-is_digit = search in
    let at-byte-at : tie.After-byte_at-first = search in
    let at-start : tie.Start = search in
    let text = at-start.args.text.now in
    let p = at-start.args.p in
    let b : at-byte-at.byte_at-first.result ≡ byte text p = at-byte-at.byte_at-first.ensures in
    let d : is_digit (byte text p) ≡ true = rw b at (sym at-is-digit.is_digit.ensures ∙ at-else1.if-not-is_digit.false) in
    let run = at-digits-from.digits_from-run.result in
    let e = at-digits-from.digits_from-run.ensures in
    let b2 : at-byte-at2.byte_at.result ≡ byte text run.next = at-byte-at2.byte_at.ensures in
    let o : is_digit (byte text run.next) ≡ false = rw b2 at (sym at-is-digit2.is_digit-2.ensures ∙ c.before.before.if-is_digit.false) in
    let z = eq-eqb (byte text p) 48 (sym b ∙ c.before.if-first-ne48.false) in
    let q = eq-eqb run.next (suc p) (c.if-next-p.true ∙ add-one p) in
    let n : is_number text p run.next ≡ true = rw (d, o, z, q) in
    record { same = sym (number_got text p run e.0 n); inside = e.1; small = e.2 }

returns : tie.Need-returns
returns c =
    let at-is-digit2 : tie.After-is_digit-2 = search in
    let at-byte-at2 : tie.After-byte_at = search in
    let at-digits-from : tie.After-digits_from-run = search in
    let at-else1 : tie.Else-not-is_digit = search in
    let at-is-digit : tie.After-is_digit = search in
    let at-byte-at : tie.After-byte_at-first = search in
    let at-start : tie.Start = search in
    let text = at-start.args.text.now in
    let p = at-start.args.p in
    let b : at-byte-at.byte_at-first.result ≡ byte text p = at-byte-at.byte_at-first.ensures in
    let d : is_digit (byte text p) ≡ true = rw b at (sym at-is-digit.is_digit.ensures ∙ at-else1.if-not-is_digit.false) in
    let run = at-digits-from.digits_from-run.result in
    let e = at-digits-from.digits_from-run.ensures in
    let b2 : at-byte-at2.byte_at.result ≡ byte text run.next = at-byte-at2.byte_at.ensures in
    let o : is_digit (byte text run.next) ≡ false = rw b2 at (sym at-is-digit2.is_digit-2.ensures ∙ c.before.before.if-is_digit.false) in
    let z = eq-eqb (byte text p) 48 (sym b ∙ c.before.if-first-ne48.false) in
    let q = ne_eqb run.next (suc p) (λ h. c.if-next-p.false (h ∙ sym (add-one p))) in
    let n : is_number text p run.next ≡ false = rw (d, o, z, q) in
    record { same = sym (number_wrong text p run e.0 n); inside = omega arith; small = omega arith }

pub number_at_spec : {M : Type 1} → statement M
number_at_spec =
    tie.close (tie.spec
    (search rules) (search rules) returns-then-not-is_digit digits_from-run-requires (search rules) (search rules) returns-then-is_digit
    returns-then-first-ne48 overflow_add-p returns-then-next-p returns)
