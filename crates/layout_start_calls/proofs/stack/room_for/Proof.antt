-- `layout_start_calls::stack::room_for` meets its contract by its test. Assumes nothing.
use Rattle.list_laws.proofs.Kit.{sym, ◌+◌, ◌<◌, ◌≤◌, arith, rules}
use Rattle.model.specs.Lent.{lent_by, job_of, entry_rows}
use Rattle.layout_start_calls.specs.Stacks.{stack_of}
use Rattle.layout_start_calls.proofs.Stacks.{room_new, room_same}
use Rattle.layout_start_calls.proofs.stack.room_for.Statement.{statement}
use Rattle.layout_start_calls.proofs.stack.room_for.Tie as tie

overflow_cast-result : tie.Need-overflow_cast-result
overflow_cast-result c =
    let at-start : tie.Start = search in
    let p = at-start.requires.3 in omega arith

returns-then-size-pile : tie.Need-returns-then-size-pile
unfolding job_of
returns-then-size-pile c =
    let at-start : tie.Start = search in
    let at-rows-of : tie.After-rows_of-rows = search in
    let taken1 : tie.Then-size-pile = search in
    let a = at-start.args in
    let over : a.size.rows < a.pile.height.0 + entry_rows a.table.now a.i = rw at-rows-of.rows_of-rows.ensures.0 at taken1.if-size-pile.true in
    record {
      same = λ pixels. sym (room_new (job_of (lent_by a.size a.table.now pixels)) a.i (stack_of a.pile) over);
      on_top = let h = at-start.requires.1 in omega arith;
      end = omega arith;
    }

returns : tie.Need-returns
unfolding job_of
returns c =
    let at-start : tie.Start = search in
    let at-rows-of : tie.After-rows_of-rows = search in
    let a = at-start.args in
    let under : a.pile.height.0 + entry_rows a.table.now a.i ≤ a.size.rows = rw at-rows-of.rows_of-rows.ensures.0 at c.if-size-pile.false in
    record {
      same = λ pixels. sym (room_same (job_of (lent_by a.size a.table.now pixels)) a.i (stack_of a.pile) under);
      on_top = under;
      end = omega arith;
    }

pub room_for_spec : {M : Type 1} → statement M
room_for_spec =
    tie.close
    (tie.spec
    (search rules) (search rules) (search rules) (search rules) (search rules) overflow_cast-result returns-then-size-pile returns)
