-- Strips stored one after the other: what is left of them is still to be stored. Assumes nothing.
use Rattle.list_laws.proofs.Kit.{◌≡◌, ap, List, map, ◌+◌, ℕ, length, sets}
use Rattle.model.specs.Strip.{Strip}
use Rattle.model.specs.Buffer.{strip_entry}

-- storing the strips that are left from `at` on in the present store gives what storing all of them from `begin` on gave at first
pub record Appending (all : List Strip) (before : List (List ℕ)) (begin : ℕ) (present : List (List ℕ)) (at : ℕ) (left : List Strip) : Type 0 where
  pub counted : at + length left ≡ begin + length all
  pub stored : sets present at (map strip_entry left) ≡ sets before begin (map strip_entry all)

-- at first all are left
pub append_start : {all left : List Strip} (before : List (List ℕ)) (begin : ℕ) → left ≡ all → Appending all before begin before begin left
append_start before begin e = record { counted = ap (λ ts. begin + length ts) e; stored = ap (λ ts. sets before begin (map strip_entry ts)) e }
