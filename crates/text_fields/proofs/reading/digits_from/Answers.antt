-- `text_fields::reading::digits_from`: a digit is one more of those read, another byte ends the run. Assumes nothing.
use Rattle.list_laws.proofs.Kit.{◌∙◌, ◌≡◌, ap, sym, false, true, ◌*◌, ◌+◌, ◌-◌, ◌≤◌, suc, add-one, le_trans, arith}
use Rattle.model.specs.Text.{byte, is_digit}
use Rattle.text_fields.specs.Answers.{digit_run}
use Rattle.text_fields.proofs.Steps.{digit_inside, digits_more, digits_end, digits_none, largest, largest_grows, largest_above}
use Rattle.text_fields.proofs.reading.digits_from.Goals as goal

pub returns-then-not-is_digit : goal.returns-then-not-is_digit
returns-then-not-is_digit c =
    let text = c.args.text.now in
    let l = c.loop in
    let e : 5 - l.counter ≡ suc (4 - l.counter) = omega arith in
    let d : is_digit (byte text l.next) ≡ false = rw c.byte_at-b.ensures at (sym c.is_digit.ensures ∙ c.if-not-is_digit.true) in (
      ap digit_run (sym (digits_end text l.next l.value (4 - l.counter) d) ∙ (rw e at l.invariant.same)),
      l.invariant.inside,
      le_trans (largest_above (5 - l.counter) l.value) l.invariant.small,
    )

pub overflow_mul-value : goal.overflow_mul-value
overflow_mul-value c =
    let h = largest_above (5 - c.loop.counter) c.loop.value in
    omega arith

pub overflow_add-value : goal.overflow_add-value
overflow_add-value c =
    let h = largest_above (5 - c.loop.counter) c.loop.value in
    omega arith

pub loop-preserved : goal.loop-preserved
loop-preserved c =
    let text = c.args.text.now in
    let l = c.loop in
    let e : 5 - l.counter ≡ suc (4 - l.counter) = omega arith in
    let f : 5 - (l.counter + 1) ≡ 4 - l.counter = omega arith in
    let b : c.byte_at-b.result ≡ byte text l.next = c.byte_at-b.ensures in
    let d : is_digit (byte text l.next) ≡ true = rw b at (sym c.is_digit.ensures ∙ c.if-not-is_digit.false) in
    let v : c.digit_value.result ≡ byte text l.next - 48 = rw b at c.digit_value.ensures.0 in
    let m : largest (l.value * 10 + 9) (4 - l.counter) ≤ 99999 = rw e at l.invariant.small in
    record {
      same = rw (f, add-one, v) (sym (digits_more text l.next l.value (4 - l.counter) d) ∙ (rw e at l.invariant.same));
      inside = let i = digit_inside text l.next d in omega arith;
      small = rw f (le_trans (largest_grows (4 - l.counter) (l.value * 10 + c.digit_value.result) (l.value * 10 + 9) (omega arith)) m);
    }

pub returns : goal.returns
returns c =
    let text = c.args.text.now in
    let l = c.loop in
    let e : 5 - l.counter ≡ 0 = omega arith in
    (ap digit_run (sym (digits_none text l.next l.value) ∙ (rw e at l.invariant.same)), l.invariant.inside, rw e at l.invariant.small)
