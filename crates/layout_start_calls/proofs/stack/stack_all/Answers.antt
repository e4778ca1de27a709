-- `layout_start_calls::stack::stack_all`: one more piece of the order is stacked, and after the last none is left. Assumes nothing.
use Rattle.list_laws.proofs.Kit.{◌∙◌, ◌≡◌, ap, refl, List, [], ℕ, arith, drop, drop_of_length-le, get_or, length, length-set}
use Rattle.list_laws.proofs.Kit.{length-take, take, length-take-le}
use Rattle.model.specs.Lent.{lent_by, job_of}
use Rattle.model.specs.Buffer.{entry_of}
use Rattle.layout_start_calls.specs.Stacks.{stack_of, stack_entries}
use Rattle.layout_start_calls.proofs.Free.{listed_below}
use Rattle.layout_start_calls.proofs.Stacks.{stack_step}
use Rattle.layout_start_calls.proofs.stack.stack_all.Goals as goal

pub loop-i-init : goal.loop-i-init
loop-i-init c = (c.requires.4, omega arith, omega arith, λ pixels. refl)

pub room_for-pile-requires : goal.room_for-pile-requires
room_for-pile-requires c =
    let f = c.requires.0 in
    let i = listed_below c.args.order.now c.args.count c.args.size.count c.loop-i.i-index (omega arith) c.requires.1 (omega arith) in
    (let e = f.entries in omega arith, f.rows_fit _ i, let r = f.few_rows in omega arith, omega arith)

pub on_top-requires : goal.on_top-requires
on_top-requires c =
    let f = c.requires.0 in
    let i = listed_below c.args.order.now c.args.count c.args.size.count c.loop-i.i-index (omega arith) c.requires.1 (omega arith) in
    (let e = f.entries in omega arith, f.columns_fit _ i, f.few_columns)

pub bounds-layout-i : goal.bounds-layout-i
bounds-layout-i c = let i = listed_below c.args.order.now c.args.count c.args.size.count c.loop-i.i-index (omega arith) c.requires.1 (omega arith) in omega arith

pub piled-pile-requires : goal.piled-pile-requires
piled-pile-requires c =
    let f = c.requires.0 in
    let i = listed_below c.args.order.now c.args.count c.args.size.count c.loop-i.i-index (omega arith) c.requires.1 (omega arith) in
    (let e = f.entries in omega arith, c.room_for-pile.ensures.on_top, f.few_rows)

pub loop-i-preserved : goal.loop-i-preserved
loop-i-preserved c =
    let a = c.args in
    let l = c.loop-i in
    let room = c.room_for-pile.ensures in
    let top = c.piled-pile.ensures in
    let order : List ℕ = take a.count a.order.now in
    let long : length order ≡ a.count = length-take-le a.count a.order.now (omega arith) in (
      length-set l.layout _ c.entry_of.result ∙ l.invariant.0,
      top.height,
      let r = room.end in let t = top.end in omega arith,
      λ pixels.
          stack_step (job_of (lent_by a.size a.table.now pixels)) order l.i-index (get_or order l.i-index 0) (stack_of l.pile)
          (stack_of c.room_for-pile.result) (stack_of c.piled-pile.result) c.entry_of.result l.layout
          (omega arith) refl (room.same pixels) (c.entry_of.ensures ∙ ap entry_of (c.on_top.ensures pixels)) (top.same pixels)
          ∙ l.invariant.3 pixels,
    )

pub returns : goal.returns
unfolding stack_entries
returns c =
    let a = c.args in
    let l = c.loop-i in
    let order : List ℕ = take a.count a.order.now in
    let end : drop l.i-index order ≡ [] = drop_of_length-le order {i = l.i-index} (let t = length-take a.count a.order.now in omega arith) in
    λ pixels. rw (end, stack_entries) at (l.invariant.3 pixels)
