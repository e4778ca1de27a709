-- `text_fields::reading::word_at`: what `all` answers. Assumes nothing.
use Rattle.std.proofs.Common.{rules}
use borrow.Author.Tests.{tests}
use Rattle.list_laws.proofs.Kit.{◌∙◌, length}
use Rattle.list_laws.proofs.Ranges.{all_over}
use Rattle.text_fields.proofs.Steps.{there, all_there}
use Rattle.text_fields.proofs.reading.word_at.Goals as goal

pub returns : goal.returns
returns c =
    let a = c.args in
    all_over (there a.word.now a.text.now a.p) (length a.word.now) _ _ _ c.all.ensures.ran (cc) (λ x b q k. search (rules, tests))
    ∙ all_there a.word.now a.text.now a.p
