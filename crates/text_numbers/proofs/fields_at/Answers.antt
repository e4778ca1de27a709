-- `text_numbers::fields_at`: a field is one more of the numbers, or the whole is of wrong form. Assumes nothing.
use Rattle.list_laws.proofs.Kit.{◌∙◌, ◌≡◌, sym, ◌<◌, ◌≤◌, arith, length, length-set}
use Rattle.std.specs.Prelude.{None}
use Rattle.model.specs.Text.{field_at, got, wrong}
use Rattle.text_fields.proofs.Steps.{got_of, wrong_of}
use Rattle.text_numbers.proofs.Steps.{read_more, read_wrong, read_all, zeros_kept}
use Rattle.text_numbers.proofs.fields_at.Goals as goal

pub returns-in_err-number : goal.returns-in_err-number
returns-in_err-number c =
    let text = c.args.text.now in
    let l = c.loop-k in
    let end = c.end_byte.result in
    let e : field_at end text l.next ≡ wrong = wrong_of (field_at end text l.next) (sym c.in_err-number.was ∙ c.field_at.ensures.same) in
    let r : c.from_residual.result ≡ None = c.from_residual.ensures in
    rw r (record {
      same = sym l.invariant.same ∙ read_wrong text l.numbers l.next l.k c.args.count end c.loop-k-test.true c.end_byte.ensures.0 e;
      others = tt;
      inside = omega arith;
    })

pub loop-k-preserved : goal.loop-k-preserved
loop-k-preserved c =
    let text = c.args.text.now in
    let l = c.loop-k in
    let end = c.end_byte.result in
    let n = c.in_ok-number.number in
    let e : field_at end text l.next ≡ got n.value n.next = got_of (field_at end text l.next) n (sym c.in_ok-number.was ∙ c.field_at.ensures.same) in
    let i : n.next ≤ length text = c.in_ok-number.ensures.inside in
    let room : l.k < length l.numbers = omega arith in
    record {
      size = length-set l.numbers l.k _ ∙ l.invariant.size;
      inside = λ h. i;
      same =
          read_more text l.numbers l.next l.k c.args.count end c.loop-k-test.true c.end_byte.ensures.0 n.value n.next room e ∙ l.invariant.same;
      others = zeros_kept l.numbers l.k n.value l.invariant.others;
    }

pub returns : goal.returns
returns c =
    let l = c.loop-k in
    let done : l.k ≡ c.args.count = omega arith in
    record {
      same = sym l.invariant.same ∙ read_all c.args.text.now l.numbers l.next c.args.count l.k done;
      others = λ j h. l.invariant.others j (omega arith);
      inside = l.invariant.inside (omega arith);
    }
