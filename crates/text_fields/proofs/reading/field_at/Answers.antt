-- `text_fields::reading::field_at`: wrong where there is no number or another byte behind it.
use Rattle.list_laws.proofs.Kit.{◌≢◌, ◌∙◌, ◌≡◌, sym, arith}
use Rattle.std.specs.Prelude.{None}
use Rattle.model.specs.Text.{byte, number_at, got, wrong}
use Rattle.text_fields.proofs.Steps.{byte_inside, got_of, wrong_of, field_none, field_wrong, field_got}
use Rattle.text_fields.proofs.reading.field_at.Goals as goal

pub returns-in_err-value : goal.returns-in_err-value
returns-in_err-value c =
    let a = c.args in
    let text = a.text.now in
    let e : number_at text a.p ≡ wrong = wrong_of (number_at text a.p) (sym c.in_err-value.was ∙ c.number_at.ensures.same) in
    let r : c.from_residual.result ≡ None = c.from_residual.ensures in
    rw r (record { same = sym (field_none text a.p a.end e); inside = omega arith; small = omega arith })

pub returns-then-byte_at-end : goal.returns-then-byte_at-end
returns-then-byte_at-end c =
    let a = c.args in
    let text = a.text.now in
    let n = c.in_ok-value.field-0 in
    let e : number_at text a.p ≡ got n.value n.next = got_of (number_at text a.p) n (sym c.in_ok-value.was ∙ c.number_at.ensures.same) in
    let b : c.byte_at.result ≡ byte text n.next = c.byte_at.ensures in
    let other : c.byte_at.result ≢ a.end = c.if-byte_at-end.true in
    record { same = sym (field_wrong text a.p a.end n.value n.next e (λ h. other (b ∙ h))); inside = omega arith; small = omega arith }

pub returns : goal.returns
returns c =
    let a = c.args in
    let text = a.text.now in
    let n = c.in_ok-value.field-0 in
    let e : number_at text a.p ≡ got n.value n.next = got_of (number_at text a.p) n (sym c.in_ok-value.was ∙ c.number_at.ensures.same) in
    let b : c.byte_at.result ≡ byte text n.next = c.byte_at.ensures in
    let h : byte text n.next ≡ a.end = sym b ∙ c.if-byte_at-end.false in
    let o = byte_inside text n.next (omega arith) in
    record { same = sym (field_got text a.p a.end n.value n.next e h); inside = omega arith; small = c.in_ok-value.ensures.small }
