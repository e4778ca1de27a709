-- Document 01, 'When a call says no', reading: "First place: line, from 1". Where a line of a text begins, said over the bytes of the
-- text. Assumes nothing.
use Rattle.std.specs.Prelude.{List, ◌⊎◌, ◌≡◌, ℕ, suc, ◌≤◌, eqb, length}
use Rattle.model.specs.Bounded.{sum_below, one_if}
use Rattle.model.specs.Text.{byte, line_end}
use Rattle.model.specs.declared.Refusal.{Refusal}

-- how many line ends (byte 10) stand among the first p bytes
unfoldable pub line_ends : List ℕ → ℕ → ℕ
line_ends text p = sum_below p (λ q. one_if (eqb (byte text q) line_end))

-- position p is just behind a line end
pub record Behind (text : List ℕ) (p : ℕ) : Type 0 where
  pub last : ℕ
  pub next : p ≡ suc last
  pub ends : byte text last ≡ line_end

-- the line of that number begins at position p: one line end fewer stands before p than the number says, and p is the start of the
-- text or just behind a line end. A line that is missing begins at the end of the text
pub record LineBegins (text : List ℕ) (line p : ℕ) : Type 0 where
  pub counted : line ≡ suc (line_ends text p)
  pub behind : (p ≡ 0) ⊎ Behind text p
  pub within : p ≤ length text

-- the line of that number begins somewhere
pub record LineThere (text : List ℕ) (line : ℕ) : Type 0 where
  pub at : ℕ
  pub begins : LineBegins text line at

-- the refusal of a number on a line
abbrev pub refusal_on_line : ℕ → ℕ → Refusal
refusal_on_line number line = record { number = number; first = line; second = 0 }
