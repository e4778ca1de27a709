-- `c_interface::record::entry_of`: the two tests decide whether the numbers are an entry. Assumes nothing.
use Rattle.std.specs.Prelude.{is_some}
use Rattle.list_laws.proofs.Kit.{◌∙◌, sym, ap, not, arith, get_or}
use Rattle.c_interface.proofs.Entries.{some_turn, laid_wrong, turn_wrong, numbers_right}
use Rattle.c_interface.proofs.record.entry_of.Goals as goal

pub returns-then-stray : goal.returns-then-stray
returns-then-stray c = c.stray_entry.ensures ∙ sym (laid_wrong c.args.numbers (omega arith))

pub returns-then-is_none : goal.returns-then-is_none
returns-then-is_none c =
    let ks = c.args.numbers in
    let asked = sym (some_turn (get_or ks 1 0)) ∙ ap is_some (sym c.turn_of.ensures) ∙ c.is_none.ensures in
    c.stray_entry-then-is_none.ensures ∙ sym (turn_wrong ks (omega arith) (asked ∙ ap not c.if-is_none.true))

pub returns : goal.returns
returns c =
    let ks = c.args.numbers in
    let asked = sym (some_turn (get_or ks 1 0)) ∙ ap is_some (sym c.turn_of.ensures) ∙ c.is_none.ensures in
    rw c.placement_of-place.ensures (sym (numbers_right ks (omega arith) (asked ∙ ap not c.if-is_none.false)))
