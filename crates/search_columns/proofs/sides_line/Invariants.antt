-- `search_columns::sides_line`: the places before this one are done, q is this one's bit, and n set bits in a row are below it. Assumes nothing.
use Rattle.list_laws.proofs.Kit.{◌≡◌, List, ◌*◌, ◌+◌, ◌≤◌, ℕ}
use Rattle.list_laws.proofs.Passes.{Passing}
use Rattle.search_columns.specs.Column.{byte_most, FirstWithin, under}
use Rattle.search_columns.proofs.Counts.{Under}
use Rattle.search_columns.proofs.sides_line.Given as goal

-- what a place is set to
abbrev pub sides_at : List ℕ → ℕ → ℕ → ℕ → ℕ → Type 0
sides_at ws w p y v = FirstWithin (under ws w (p + y * w)) byte_most v

abbrev pub invariant-loop-place : goal.invariant-loop-place
invariant-loop-place l = record {
  at : l.q ≡ l.p + l.place-index * l.w;
  few : l.n ≤ l.place-index;
  under : Under l.ws l.w l.q l.n;
  done : Passing (sides_at l.ws l.w l.p) l.fn.line l.line l.place-index;
}
