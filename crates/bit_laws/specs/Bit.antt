-- The bits of a number, and of a list of words as one string. Assumes nothing.
use Rattle.std.specs.Prelude.{Bool, true, false, List, ℕ, zero, suc, ◌/◌, ◌%◌, get_or}

-- a binary digit as a test
abbrev pub is_set : ℕ → Bool
is_set zero = false
is_set (suc d) = true

-- bit i of x
unfoldable pub bit_at : ℕ → ℕ → Bool
bit_at x zero = is_set (x % 2)
bit_at x (suc i) = bit_at (x / 2) i

-- bit p of a list of words of 64 bits; past its end all are clear
unfoldable pub bit_in : List ℕ → ℕ → Bool
bit_in ws p = bit_at (get_or ws (p / 64) 0) (p % 64)

-- words and places of a line are fewer, so that no sum of places wraps
abbrev pub length_limit : ℕ
length_limit = 1000000000
