-- `search_columns::sides_line`: each place is set from its row and the count below it. Assumes nothing.
use Rattle.list_laws.proofs.Kit.{◌≡◌, subst, sym, ◌*◌, ◌+◌, ◌≤◌, ℕ, arith, rules, length, min, mul-le-mul_right}
use Rattle.list_laws.proofs.Passes.{pass_none, pass_set}
use Rattle.search_columns.specs.Column.{byte_most, FirstWithin, under, Walled}
use Rattle.search_columns.proofs.Counts.{under_start, under_next, under_place, count_most}
use Rattle.search_columns.proofs.sides_line.Goals as goal
use Rattle.search_columns.proofs.sides_line.Invariants.{sides_at}

pub loop-place-init : goal.loop-place-init
loop-place-init c =
    let a = c.args in
    record {
      at = omega arith;
      few = omega arith;
      under = under_start a.ws.now a.w a.p c.requires.fact_2.floor;
      done = pass_none (sides_at a.ws.now a.w a.p) a.line.now;
    }

pub row_gap-v-requires : goal.row_gap-v-requires
row_gap-v-requires c =
    let o = c.loop-place in
    subst (Walled c.args.ws.now) (sym o.invariant.at) (c.requires.fact_1.each o.place-index c.loop-place-test.true)

-- the next bit is one of the column's or the one after them
pub overflow_add-q : goal.overflow_add-q
overflow_add-q c =
    let o = c.loop-place in
    let a = c.args in
    let l : (o.place-index + 1) * a.w ≤ length a.line.now * a.w = mul-le-mul_right a.w (omega arith) in
    let m : (o.place-index + 1) * a.w ≡ o.place-index * a.w + a.w = omega arith in
    omega (arith, o.invariant.at, c.requires.fact_1.small)

pub loop-place-preserved : goal.loop-place-preserved
loop-place-preserved c =
    let o = c.loop-place in
    let a = c.args in
    let v = c.row_gap-v.result in
    let g = c.row_gap-v.ensures in
    let b : c.min.result ≡ min (o.n + 1) byte_most = search rules in
    let n = c.count_on-n.ensures in
    let m : (o.place-index + 1) * a.w ≡ o.place-index * a.w + a.w = omega arith in
    record {
      at = omega (arith, o.invariant.at);
      few = omega (arith, n, o.invariant.few, count_most v o.n);
      under = under_next a.ws.now a.w o.q o.n _ v b o.invariant.under g _ n;
      done =
          pass_set (sides_at a.ws.now a.w a.p) a.line.now o.line o.place-index _ (omega arith)
          (subst (λ (i : ℕ). FirstWithin (under a.ws.now a.w i) byte_most v) o.invariant.at
          (under_place a.ws.now a.w o.q o.n _ v b o.invariant.under g)) o.invariant.done;
    }

pub returns : goal.returns
returns c =
    let w = c.loop-place.invariant.done in
    let e = w.same in
    record { same = e; each = λ j b. w.done j (omega arith) }
