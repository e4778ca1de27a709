-- `pair_nofit_calls::no_fit`: the causes refuse, or none is there and the stretches' line is the no-fit line. Assumes nothing.
use Rattle.list_laws.proofs.Exits.{handed_on}
use Rattle.list_laws.proofs.Kit.{◌∙◌, ◌≡◌, ap, sym, List, arith, length, ℤ}
use mir.Syntax.{w32}
use mir.Val.{to_z, of_z}
use mir.ValLaws.{to_z-of_z}
use Rattle.model.specs.Strip.{Run}
use Rattle.model.specs.Refusal.{Outcome}
use Rattle.model.specs.Lent.{lent_by}
use Rattle.model.specs.Calls.{runs_after}
use Rattle.text_laws.proofs.Causes.{passed_none}
use Rattle.model.specs.Answers.{count_answer}
use Rattle.pair_nofit_calls.specs.Lines.{lent_stretch, line_outcome, line_after}
use Rattle.pair_nofit_calls.proofs.NoFits.{first_ordered, second_ordered, gap_small_lem, line_called, refused_called}
use Rattle.pair_nofit_calls.proofs.no_fit.Goals as goal

pub returns-in_err-stretch_causes : goal.returns-in_err-stretch_causes
returns-in_err-stretch_causes c =
    let a = c.args in
    let l = lent_by a.size a.table.now a.pixels.now in
    let one = lent_stretch a.first.piece a.first.turn a.a.now in
    let two = lent_stretch a.second.piece a.second.turn a.b.now in
    let f = refused_called a.direction l one two a.offset (length a.out.now) _ c.in_err-stretch_causes.ensures in
    let e = handed_on _ _ c.from_residual.ensures.1 in
    record { answer = e ∙ ap count_answer (sym f); memory = ap (runs_after a.out.now) (sym f) }

pub overflow_cast-gap : goal.overflow_cast-gap
overflow_cast-gap c =
    let a = c.args in
    let l = lent_by a.size a.table.now a.pixels.now in
    let one = lent_stretch a.first.piece a.first.turn a.a.now in
    let two = lent_stretch a.second.piece a.second.turn a.b.now in
    omega (arith, gap_small_lem a.direction l one two (passed_none _ c.in_ok-stretch_causes.ensures))

pub put_line-requires : goal.put_line-requires
put_line-requires c =
    let a = c.args in
    let l = lent_by a.size a.table.now a.pixels.now in
    let one = lent_stretch a.first.piece a.first.turn a.a.now in
    let two = lent_stretch a.second.piece a.second.turn a.b.now in
    let none = passed_none _ c.in_ok-stretch_causes.ensures in
    let small = gap_small_lem a.direction l one two none in
    record { fact_1 = first_ordered a.direction l one two none; fact_2 = second_ordered a.direction l one two none; fact_3 = omega arith }

pub returns : goal.returns
returns c =
    let a = c.args in
    let l = lent_by a.size a.table.now a.pixels.now in
    let one = lent_stretch a.first.piece a.first.turn a.a.now in
    let two = lent_stretch a.second.piece a.second.turn a.b.now in
    let e : to_z w32 (of_z w32 a.offset) ≡ a.offset = to_z-of_z w32 a.offset c.ranges.offset in
    let line : ℤ → Outcome (List Run) = λ z. line_outcome a.size.gap a.a.now a.b.now z (length a.out.now) in
    let w = line_called a.direction l one two (passed_none _ c.in_ok-stretch_causes.ensures) a.offset a.out.now in
    record {
      answer = c.put_line.ensures.answer ∙ ap (λ (z : ℤ). count_answer (line z)) e ∙ w.answer;
      memory = c.put_line.ensures.memory ∙ ap (λ (z : ℤ). line_after a.out.now (line z)) e ∙ w.memory;
    }
