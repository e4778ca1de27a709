-- `pair_overlap::walk_start`: strips that end before the other stretch begins cross none of its strips, whatever the gap, also when the second is shifted.
-- Assumes nothing.
use Rattle.list_laws.proofs.Kit.{subst, ℕ, arith, rules}
use Rattle.pair_overlap.specs.Meet.{Skipped}
use Rattle.pair_overlap.proofs.Walk.{first_onwards, second_onwards}
use Rattle.pair_overlap.proofs.walk_start.Statement.{statement}
use Rattle.pair_overlap.proofs.walk_start.Tie as tie

returns-then-a-first : tie.Need-returns-then-a-first
returns-then-a-first c =
    let at-start : tie.Start = search in
    let s = at-start.args in
    let i = c.before.skip-first.result in
    let o = at-start.requires.1.0 in
    let w = subst (λ (p : ℕ). Skipped s.a.now s.x p i) c.before.before.span_at-q.ensures.begins c.before.skip-first.ensures in
    record {
      first = c.before.skip-first.ensures.within;
      second = omega arith;
      onwards = λ g m few l. first_onwards g few s.a.now s.x s.b.now s.y i 0 o w m;
    }

returns : tie.Need-returns
returns c =
    let at-skip : tie.After-skip-first = search in
    let at-span-at : tie.After-span_at-q = search in
    let at-start : tie.Start = search in
    let s = at-start.args in
    let i = at-skip.skip-first.result in
    let j = c.skip-second.result in
    let o = at-start.requires.0 in
    let o' = at-start.requires.1.0 in
    let w = subst (λ (p : ℕ). Skipped s.a.now s.x p i) at-span-at.span_at-q.ensures.begins at-skip.skip-first.ensures in
    let v = subst (λ (p : ℕ). Skipped s.b.now s.y p j) c.before.span_at-p.ensures.begins c.skip-second.ensures in
    record {
      first = at-skip.skip-first.ensures.within;
      second = c.skip-second.ensures.within;
      onwards =
          λ g m few l.
          second_onwards g few s.a.now s.x s.b.now s.y i j o v m l
          (first_onwards g few s.a.now s.x s.b.now s.y i j o' w m);
    }

pub walk_start_spec : {M : Type 1} → statement M
walk_start_spec =
    tie.close (tie.spec
    (search rules) (search rules) (λ c κs. search rules) returns-then-a-first (search rules) (λ c κs. search rules) returns)
