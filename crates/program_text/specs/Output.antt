-- How much the program prints. Assumes nothing.
use Rattle.std.specs.Prelude.{ℕ}

-- no text that the program prints has more bytes
abbrev pub output_bound : ℕ
output_bound = 4096
