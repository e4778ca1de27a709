-- `layout_start_calls::stack_free` meets its contract: the free pieces of the order are stacked. Assumes nothing.
use Rattle.list_laws.proofs.Kit.{◌∙◌, ◌≡◌, ap, List, [], ◌<◌, ◌≤◌, ℕ, arith, get_or, length, length-replicate, take, rules}
use Rattle.model.specs.Lent.{lent_by, job_of}
use Rattle.model.specs.Start.{empty_stack, falling_order, free_only}
use Rattle.layout_start_calls.specs.Stacks.{stack_entries}
use Rattle.layout_start_calls.proofs.Insertion.{order_below}
use Rattle.layout_start_calls.proofs.Free.{free_below_at}
use Rattle.layout_start_calls.proofs.stack_free.Statement.{statement}
use Rattle.layout_start_calls.proofs.stack_free.Tie as tie

-- the order has the job's pieces
ordered : (c : tie.After-falling_order-order)
    →
    let at-start : tie.Start = search in
    (k : ℕ) → k < at-start.args.size.count → get_or c.falling_order-order.result k 0 < at-start.args.size.count
ordered c =
    let at-start : tie.Start = search in
    let a = at-start.args in
    let order = c.falling_order-order in
    let n : a.size.count ≤ length order.result = let e = order.ensures.0 in let k = at-start.requires.0.few_pieces in omega arith in
    order_below (job_of (lent_by a.size a.table.now [])) order.result a.size.count n (order.ensures.1 [])

free_only-count-requires : tie.Need-free_only-count-requires
free_only-count-requires c κs =
    let at-start : tie.Start = search in
    let at-order : tie.After-falling_order-order = search in
    let f = at-start.requires.0 in
    (f.few_pieces, f.entries, ordered at-order, at-order.falling_order-order.ensures.0, length-replicate {A = ℕ} 64 0)

-- the free pieces, in falling order
free : (c : tie.After-free_only-count) (pixels : List ℕ)
    →
    let at-start : tie.Start = search in
    take c.free_only-count.result c.free_only-count.new.free
    ≡ free_only (job_of (lent_by at-start.args.size at-start.args.table.now pixels))
    (falling_order (job_of (lent_by at-start.args.size at-start.args.table.now pixels)) at-start.args.size.count)
free c pixels =
    let at-start : tie.Start = search in
    let at-order : tie.After-falling_order-order = search in
    c.free_only-count.ensures.0 pixels
    ∙ ap (free_only (job_of (lent_by at-start.args.size at-start.args.table.now pixels))) (at-order.falling_order-order.ensures.1 pixels)

stack_all-requires : tie.Need-stack_all-requires
unfolding job_of
stack_all-requires c κs =
    let at-start : tie.Start = search in
    let at-free : tie.After-free_only-count = search in
    let f = at-start.requires.0 in
    let a = at-start.args in
    let few = at-free.free_only-count.ensures.1.0 in
    let whole = at-free.free_only-count.ensures.1.1 in
    let p = f.few_pieces in (
      f,
      free_below_at (job_of (lent_by a.size a.table.now [])) at-free.free_only-count.new.free at-free.free_only-count.result (omega arith)
          (free at-free []),
      omega arith,
      whole,
      at-start.requires.1,
    )

returns : tie.Need-returns
returns c = λ pixels.
    let at-start : tie.Start = search in
    let at-free : tie.After-free_only-count = search in
    let at-stacked : tie.After-stack_all = search in
    at-stacked.stack_all.ensures pixels
    ∙ ap
    (λ (is : List ℕ). stack_entries (job_of (lent_by at-start.args.size at-start.args.table.now pixels)) is empty_stack at-start.args.layout.now)
    (free at-free pixels)

pub stack_free_spec : {M : Type 1} → statement M
stack_free_spec = tie.close (tie.spec
    (search rules) free_only-count-requires stack_all-requires (search rules) returns)
