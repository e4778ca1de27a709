-- `text_numbers::line_at`: wrong where the word does not stand, else what the fields behind it are. Assumes nothing.
use Rattle.list_laws.proofs.Kit.{sym, ◌∙◌, arith}
use Rattle.model.specs.Text.{fields_at}
use Rattle.text_fields.proofs.Steps.{after_not, after_word}
use Rattle.text_numbers.specs.Lines.{field_ends}
use Rattle.text_numbers.proofs.line_at.Goals as goal

pub returns-then-not-word_at : goal.returns-then-not-word_at
returns-then-not-word_at c =
    let a = c.args in
    record {
      same = after_not a.word.now a.text.now a.p (fields_at (field_ends a.count) a.text.now) (sym c.word_at.ensures ∙ c.if-not-word_at.true);
      others = tt;
      inside = omega arith;
    }

pub returns : goal.returns
returns c =
    let a = c.args in
    record {
      same =
          after_word a.word.now a.text.now a.p (fields_at (field_ends a.count) a.text.now) (sym c.word_at.ensures ∙ c.if-not-word_at.false)
          ∙ c.fields_at.ensures.same;
      others = c.fields_at.ensures.others;
      inside = c.fields_at.ensures.inside;
    }
