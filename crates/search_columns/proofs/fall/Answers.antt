-- `search_columns::fall`: a place more is counted, and lowered to that count. Assumes nothing.
use Rattle.list_laws.proofs.Kit.{◌∙◌, ◌≡◌, ap₂, ◌-◌, min, arith, length}
use Rattle.list_laws.proofs.Passes.{back_none, back_set}
use Rattle.search_columns.specs.Column.{fallen}
use Rattle.search_columns.proofs.Counts.{fallen_none, fallen_value, fallen_most}
use Rattle.search_columns.proofs.fall.Goals as goal
use Rattle.search_columns.proofs.fall.Invariants.{height}

pub loop-k-init : goal.loop-k-init
loop-k-init c = let xs = c.args.line.now in record { count = fallen_none xs (length xs); done = back_none (height xs) xs }

pub count_on-n-requires : goal.count_on-n-requires
count_on-n-requires c =
    let o = c.loop-k in
    let xs = c.args.line.now in
    let e = o.invariant.count in
    let m = fallen_most xs o.k (length xs - o.k) in
    omega arith

pub loop-k-preserved : goal.loop-k-preserved
loop-k-preserved c =
    let xs = c.args.line.now in
    let o = c.loop-k in
    let e = o.invariant.done.same in
    let same = o.invariant.done.rest (o.k - 1) (omega arith) in
    let n = c.count_on-n.result in
    let v : n ≡ fallen xs (o.k - 1) (length xs - (o.k - 1)) =
    fallen_value xs o.k (length xs) o.n _ n c.loop-k-test.true o.auto.k o.invariant.count same c.count_on-n.ensures in
    record {
      count = v;
      done = back_set (height xs) xs o.line (o.k - 1) c.lesser.result (omega arith) (c.lesser.ensures ∙ ap₂ min same v) o.k (omega arith) o.invariant.done;
    }

pub returns : goal.returns
returns c =
    let w = c.loop-k.invariant.done in
    let l = c.loop-k-test.false in
    record { same = w.same; at = λ j b. w.done j (omega arith) b }
