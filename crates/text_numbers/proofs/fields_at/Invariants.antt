-- `text_numbers::fields_at`: the numbers so far, in front of the fields that are left, are what the whole reads. Assumes nothing.
use Rattle.list_laws.proofs.Kit.{◌≡◌, ◌-◌, ◌<◌, ◌≤◌, ℕ, length}
use Rattle.model.specs.Text.{field, fields_at}
use Rattle.text_numbers.specs.Lines.{field_ends}
use Rattle.text_numbers.proofs.Steps.{read_on}
use Rattle.text_numbers.proofs.fields_at.Given as goal

abbrev pub invariant-loop-k : goal.invariant-loop-k
invariant-loop-k l =
    record {
      size : length l.numbers ≡ 8;
      inside : 0 < l.k → l.next ≤ length l.text;
      same : read_on l.numbers l.k (fields_at (field_ends (l.count - l.k)) l.text l.next) ≡ fields_at (field_ends l.count) l.text l.p;
      others : (j : ℕ) → l.k ≤ j → field l.numbers j ≡ 0;
    }
