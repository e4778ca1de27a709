-- `text_fields::reading::digits_from`: what is left to read, behind the digits so far, is what was to be read at first. At most 99,999 can come
-- of it. Assumes nothing.
use Rattle.list_laws.proofs.Kit.{◌≡◌, ◌-◌, ◌≤◌, length}
use Rattle.model.specs.Text.{digits_from}
use Rattle.text_fields.proofs.Steps.{largest}
use Rattle.text_fields.proofs.reading.digits_from.Given as goal

abbrev pub invariant-loop : goal.invariant-loop
invariant-loop l =
    record {
      same : digits_from l.text l.next l.value (5 - l.counter) ≡ digits_from l.text l.p 0 5;
      inside : l.next ≤ length l.text;
      small : largest l.value (5 - l.counter) ≤ 99999;
    }
