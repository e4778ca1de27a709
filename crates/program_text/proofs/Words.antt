-- What the program's lines are made of: words, and numbers of at most 10 digits. Assumes nothing.
use Rattle.list_laws.proofs.Kit.{◌≡◌, List, ◌+◌, ℕ, arith, length, sets, eq-eqb, ne_eqb}
use Rattle.model.specs.Text.{bytes, decimal}
use Rattle.model.specs.Program.{end_word}
use Rattle.text_fields.proofs.Steps.{decimal_short}
use Rattle.layout_write_calls.specs.Written.{Written}

module _ (before : List ℕ) (at next : ℕ) (after : List ℕ) where
  -- a number has at most 10 digits
  pub decimal_written : (k : ℕ) → (next ≡ at + length (decimal 10 k)) × (after ≡ sets before at (decimal 10 k))
      → Written before at (decimal 10 k) 10 next after
  decimal_written k h = record { end = h.0; short = decimal_short 10 k; memory = h.1 }

  -- a run that ends with the plain sum 0
  pub clear_written : (sum : ℕ) → sum ≡ 0 → (next ≡ at + length (bytes "end,clear")) × (after ≡ sets before at (bytes "end,clear"))
      → Written before at (end_word sum) 9 next after
  clear_written sum e h = rw (eq-eqb sum 0 e, end_word) (record { end = h.0; short = omega arith; memory = h.1 })

  -- a run that ends with another
  pub open_written : (sum : ℕ) → (sum ≡ 0 → ⊥) → (next ≡ at + length (bytes "end,open")) × (after ≡ sets before at (bytes "end,open"))
      → Written before at (end_word sum) 9 next after
  open_written sum e h = rw (ne_eqb sum 0 e, end_word) (record { end = h.0; short = omega arith; memory = h.1 })
