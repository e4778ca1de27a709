-- What a call leaves of a workspace: memory that it is lent to keep in it what it likes. Assumes nothing.
use Rattle.std.specs.Prelude.{List, ◌≡◌, ℕ, length}
use Rattle.model.specs.Refusal.{Outcome, refused, given}

-- after a refusal the workspace is as it was; else it is as long as it was, and its words are free
abbrev pub LeftFree : {A : Type 0} → Outcome A → List ℕ → List ℕ → Type 0
LeftFree (refused r) old new = new ≡ old
LeftFree (given a) old new = length new ≡ length old
