-- Copies and moves within one slice. Assumes nothing.
use Rattle.list_laws.proofs.Kit.{◌∙◌, ◌≡◌, ap, ap₂, subst, sym, Bool, ◌&&◌, ◌||◌, List, ◌%◌, ◌*◌, ◌+◌, ◌-◌, ◌/◌, ◌<◌, ◌≤◌, ℕ, arith, leb}
use Rattle.list_laws.proofs.Kit.{get_or, length, set}
use lib.Bits.{bit_or}
use Rattle.bit_laws.specs.Bit.{bit_at, bit_in}
use Rattle.bit_laws.proofs.Strings.{bit_in_lem}
use Rattle.search_words.specs.Words.{or_bit, OrRow}
use Rattle.search_words.proofs.Moved.{moved, Moving, move_step}
use Rattle.search_levels.specs.Levels.{Copied, NextLevel}

-- the source, which lies before the row, is as it was
pub within_step : (xs : List ℕ) (at start blocks s : ℕ) (ys : List ℕ) (low j : ℕ) → j < blocks → at + j < length ys → start + blocks ≤ at
    → get_or ys (start + (j - s / 64)) 0 < 18446744073709551616 → Moving xs at xs start blocks s ys low j
    → Moving xs at xs start blocks s (set ys (at + j) (bit_or (get_or ys (at + j) 0) (moved (get_or ys (start + (j - s / 64)) 0) low (s % 64))))
    (get_or ys (start + (j - s / 64)) 0) (j + 1)
within_step xs at start blocks s ys low j jb jl ls h g =
    let e : get_or ys (start + (j - s / 64)) 0 ≡ get_or xs (start + (j - s / 64)) 0 = g.before (start + (j - s / 64)) (omega arith) in
    subst (λ (a : ℕ). Moving xs at xs start blocks s (set ys (at + j) (bit_or (get_or ys (at + j) 0) (moved a low (s % 64)))) a (j + 1)) (sym e)
    (move_step xs at xs start blocks s ys low j jb jl (subst (λ (a : ℕ). a < 18446744073709551616) e h) g)

-- a copy that takes over the level before it is the next level
pub next_from : (xs ms ys : List ℕ) (from size s : ℕ) → Copied xs from (from + size) size ms → OrRow ms (from + size) ms from size s ys
    → NextLevel xs from size s ys
unfolding or_bit bit_in
next_from xs ms ys from size s c o =
    record {
      same = o.same ∙ c.same;
      each = λ p l.
          let e : get_or ms (from + size + p / 64) 0 ≡ get_or xs (from + p / 64) 0 = c.done (p / 64) (omega arith) in
          let f : get_or ms ((from * 64 + (p - s)) / 64) 0 ≡ get_or xs ((from * 64 + (p - s)) / 64) 0 = c.before ((from * 64 + (p - s)) / 64) (omega arith) in
          o.row p l
          ∙ ap₂ (λ (a b : Bool). a || (leb s p && b))
          (bit_in_lem ms (from + size + p / 64) (p % 64) ((from + size) * 64 + p) (omega arith) (omega arith)
          ∙ ap (λ (n : ℕ). bit_at n (p % 64)) e ∙ sym (bit_in_lem xs (from + p / 64) (p % 64) (from * 64 + p) (omega arith) (omega arith)))
          (ap (λ (n : ℕ). bit_at n ((from * 64 + (p - s)) % 64)) f);
      before = λ m l. o.before m l ∙ c.before m l;
    }
