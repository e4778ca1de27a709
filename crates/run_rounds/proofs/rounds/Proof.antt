-- `run_rounds::rounds` meets its contract. Before each round the run is what comes from where the loop stands (`Rounding`), and a round
-- keeps that (`round_next`); with no round left it is what the loop has. Assumes nothing.
use Rattle.list_laws.proofs.Kit.{◌∙◌, ap, refl, sym, arith, length, rules}
use Rattle.model.specs.Lent.{Lent, lent_by, job_of}
use Rattle.model.specs.Buffer.{layout_of}
use Rattle.job_laws.proofs.Checked.{facts}
use Rattle.run_rounds.proofs.Rounding.{job_count, weighed, left_falls, Rounding, Sizes, Rounded, rounding_begin, rounding_few, rounding_done, round_next}
use Rattle.run_rounds.proofs.rounds.Statement.{statement}
use Rattle.run_rounds.proofs.rounds.Tie as tie

abbrev invariant-loop-left : tie.invariant-loop-left
invariant-loop-left run table pixels strips starts trials terms present₀ best₀ weights₀ penalties₀ lines₀ maps₀ n sum₀ made₀ moves₀ left₀
    present best weights penalties lines maps sum made moves left =
    Rounding (lent_by run.size table pixels) run strips starts weights₀ terms.count terms.budget (layout_of present₀) present best weights penalties
    lines maps sum made moves left
    × Sizes present best weights penalties lines maps present₀ best₀ weights₀ penalties₀ lines₀ maps₀

abbrev decreases-loop-left : tie.decreases-loop-left
decreases-loop-left run table pixels strips starts trials terms present₀ best₀ weights₀ penalties₀ lines₀ maps₀ n sum₀ made₀ moves₀ left₀
    present best weights penalties lines maps sum made moves left = left

-- ── places ──

-- the job at the function's entry
abbrev job : tie.Start invariant-loop-left decreases-loop-left → Lent
job s = lent_by s.args.run.size s.args.table.now s.args.pixels.now

-- the function's entry, from the loop's head
abbrev entry : tie.At-loop-left invariant-loop-left decreases-loop-left → tie.Start invariant-loop-left decreases-loop-left
entry h = search

-- the loop's head, from where the better layout is kept
abbrev head : tie.After-keep_better-sum invariant-loop-left decreases-loop-left → tie.At-loop-left invariant-loop-left decreases-loop-left
head c = let at-descend : tie.After-descend-round invariant-loop-left decreases-loop-left = search in search

-- the descent
abbrev descended : tie.After-keep_better-sum invariant-loop-left decreases-loop-left → tie.After-descend-round invariant-loop-left decreases-loop-left
descended c = search

-- the round, from its descent
abbrev inside : tie.After-descend-round invariant-loop-left decreases-loop-left → tie.In-loop-left invariant-loop-left decreases-loop-left
inside c = search

-- ── laws at these places ──

-- what a round does
rounded : (c : tie.After-keep_better-sum invariant-loop-left decreases-loop-left)
    → Rounded (job (entry (head c))) (entry (head c)).args.run (entry (head c)).args.strips.now (entry (head c)).args.starts.now
    (entry (head c)).args.terms.budget (head c).loop-left.present (head c).loop-left.best (head c).loop-left.weights (head c).loop-left.sum
    (descended c).descend-round.result (descended c).descend-round.new.layout c.keep_better-sum.new.best
    (descended c).descend-round.new.penalties (descended c).descend-round.new.lines
    (descended c).descend-round.new.maps c.plain_total-plain.result c.keep_better-sum.result
rounded c =
    let at-plain-total2 : tie.After-plain_total-plain invariant-loop-left decreases-loop-left = search in
    let said = (descended c).descend-round.ensures in
    let l = job (entry (head c)) in
    record {
      result = said.0;
      laid = said.1.0;
      ready = said.1.1;
      plain_is = at-plain-total2.plain_total-plain.ensures (job_of l) (layout_of (descended c).descend-round.new.layout) (job_count l)
          said.1.0.table;
      best_is = c.keep_better-sum.ensures.0;
      sum_is = c.keep_better-sum.ensures.1;
    }

-- ── the needs ──

plain_total-sum-requires : tie.Need-plain_total-sum-requires invariant-loop-left decreases-loop-left
plain_total-sum-requires c κs =
    let at-start : tie.Start invariant-loop-left decreases-loop-left = search in
    ((facts (job at-start) at-start.requires.0.well).few_pieces, at-start.requires.1.1.0.table.size)

loop-left-init : tie.Need-loop-left-init invariant-loop-left decreases-loop-left
loop-left-init c =
    let at-start : tie.Start invariant-loop-left decreases-loop-left = search in
    let laid = at-start.requires.1.1.0 in (
      rounding_begin at-start.args.terms.count at-start.args.terms.budget laid at-start.requires.0 at-start.requires.1.0
          at-start.requires.1.1.1.0
          (c.plain_total-sum.ensures (job_of (job at-start)) (layout_of at-start.args.present.now) (job_count (job at-start)) laid.table),
      record {
        same_layout = refl;
        same_best = refl;
        same_weights = refl;
        same_penalties = refl;
        same_lines = refl;
        same_maps = refl;
      },
    )

descend-round-requires : tie.Need-descend-round-requires invariant-loop-left decreases-loop-left
descend-round-requires c κs =
    let at-loop : tie.At-loop-left invariant-loop-left decreases-loop-left = search in
    let stands = at-loop.loop-left.invariant.0 in
    (stands.ready, (stands.underway.valid_weights, (stands.laid, ((entry at-loop).requires.1.1.1.1.0.budget, (entry at-loop).requires.1.1.1.1.1))))

overflow_add-made : tie.Need-overflow_add-made invariant-loop-left decreases-loop-left
overflow_add-made c =
    let at-loop : tie.At-loop-left invariant-loop-left decreases-loop-left = search in
    let bounds = (entry at-loop).requires.1.1.1.1.0 in
    let few = rounding_few at-loop.loop-left.invariant.0 bounds.rounds bounds.budget in
    omega arith

overflow_add-moves : tie.Need-overflow_add-moves invariant-loop-left decreases-loop-left
overflow_add-moves c =
    let at-loop : tie.At-loop-left invariant-loop-left decreases-loop-left = search in
    let bounds = (entry at-loop).requires.1.1.1.1.0 in
    let few = rounding_few at-loop.loop-left.invariant.0 bounds.rounds bounds.budget in
    omega arith

plain_total-plain-requires : tie.Need-plain_total-plain-requires invariant-loop-left decreases-loop-left
plain_total-plain-requires c κs =
    let at-descend : tie.After-descend-round invariant-loop-left decreases-loop-left = search in
    let at-loop : tie.At-loop-left invariant-loop-left decreases-loop-left = search in
    let s = entry (at-loop) in
    ((facts (job s) s.requires.0.well).few_pieces, at-descend.descend-round.ensures.1.0.table.size)

keep_better-sum-requires : tie.Need-keep_better-sum-requires invariant-loop-left decreases-loop-left
keep_better-sum-requires c κs =
    let at-descend : tie.After-descend-round invariant-loop-left decreases-loop-left = search in
    let at-loop : tie.At-loop-left invariant-loop-left decreases-loop-left = search in
    let before = at-loop.loop-left.invariant.1 in
    before.same_best ∙ ap (λ b. length b) (entry at-loop).requires.1.1.1.0 ∙ sym before.same_layout
    ∙ sym at-descend.descend-round.auto.layout

after_round-left-requires : tie.Need-after_round-left-requires invariant-loop-left decreases-loop-left
after_round-left-requires c κs =
    let at-keep-better : tie.After-keep_better-sum invariant-loop-left decreases-loop-left = search in
    let s = entry (head at-keep-better) in (
      weighed (job s) s.requires.0.well (rounded at-keep-better).laid (head at-keep-better).loop-left.invariant.0.underway.valid_weights,
      (inside (descended at-keep-better)).loop-left-test.true,
    )

loop-left-smaller : tie.Need-loop-left-smaller invariant-loop-left decreases-loop-left
loop-left-smaller c =
    let at-keep-better : tie.After-keep_better-sum invariant-loop-left decreases-loop-left = search in
    let falls = left_falls (descended at-keep-better).descend-round.result.end (head at-keep-better).loop-left.left
    (inside (descended at-keep-better)).loop-left-test.true in
    let left = c.after_round-left.ensures.0 in
    omega arith

loop-left-preserved : tie.Need-loop-left-preserved invariant-loop-left decreases-loop-left
loop-left-preserved c =
    let at-keep-better : tie.After-keep_better-sum invariant-loop-left decreases-loop-left = search in
    let s = entry (head at-keep-better) in
    let stands = (head at-keep-better).loop-left.invariant.0 in
    let before = (head at-keep-better).loop-left.invariant.1 in
    let round = rounded at-keep-better in
    let after = c.after_round-left in
    let kept = (descended at-keep-better).descend-round in (
      round_next stands
          (inside (descended at-keep-better)).loop-left-test.true round
          (after.ensures.1 (job_of (job s)) _ (job_count (job s)) round.laid.table stands.underway.valid_weights) after.ensures.0,
      record {
        same_layout = kept.auto.layout ∙ before.same_layout;
        same_best = at-keep-better.keep_better-sum.auto.best ∙ before.same_best;
        same_weights = after.auto.weights ∙ before.same_weights;
        same_penalties = kept.auto.penalties ∙ before.same_penalties;
        same_lines = kept.auto.lines ∙ before.same_lines;
        same_maps = kept.auto.maps ∙ before.same_maps;
      },
    )

shape_of-present : tie.Need-shape_of-present invariant-loop-left decreases-loop-left
shape_of-present c = c.loop-left.invariant.1.same_layout

shape_of-best : tie.Need-shape_of-best invariant-loop-left decreases-loop-left
shape_of-best c = c.loop-left.invariant.1.same_best

shape_of-weights : tie.Need-shape_of-weights invariant-loop-left decreases-loop-left
shape_of-weights c = c.loop-left.invariant.1.same_weights

shape_of-penalties : tie.Need-shape_of-penalties invariant-loop-left decreases-loop-left
shape_of-penalties c = c.loop-left.invariant.1.same_penalties

shape_of-lines : tie.Need-shape_of-lines invariant-loop-left decreases-loop-left
shape_of-lines c = c.loop-left.invariant.1.same_lines

shape_of-maps : tie.Need-shape_of-maps invariant-loop-left decreases-loop-left
shape_of-maps c = c.loop-left.invariant.1.same_maps

returns : tie.Need-returns invariant-loop-left decreases-loop-left
returns c =
    let h = c in
    let none = c.loop-left-test.false in
    record { result = rounding_done h.loop-left.invariant.0 (omega arith); written = h.loop-left.invariant.0.written }

pub rounds_spec : {M : Type 1} → statement M
rounds_spec =
    tie.close (tie.spec
    invariant-loop-left decreases-loop-left plain_total-sum-requires loop-left-init descend-round-requires (search rules) overflow_add-made
    (search rules) overflow_add-moves plain_total-plain-requires keep_better-sum-requires after_round-left-requires loop-left-smaller
    loop-left-preserved shape_of-present shape_of-best shape_of-weights shape_of-penalties shape_of-lines shape_of-maps returns)
