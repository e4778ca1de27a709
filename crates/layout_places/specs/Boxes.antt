-- A placement by its numbers. Assumes nothing.
use Rattle.std.specs.Prelude.{ℕ}
use Rattle.model.specs.declared.Turn.{Turn}
use Rattle.model.specs.declared.Placement.{Placement}

-- the placement in a turn at a column and a row
abbrev pub place_at : Turn → ℕ → ℕ → Placement
place_at t x y = record { turn = t; x = record { 0 = x }; y = record { 0 = y } }
