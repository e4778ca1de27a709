-- What the check of a lent job says of its numbers, and so of the places of a line. Assumes nothing.
use Rattle.list_laws.proofs.Kit.{◌≡◌, Bool, false, true, ◌+◌, ◌-◌, ◌≤◌, suc, ℕ, arith, leb}
use Rattle.model.specs.Piece.{extent, other, line_direction, held}
use Rattle.model.specs.Layout.{sheet_extent, turned_piece}
use Rattle.model.specs.Search.{places}
use Rattle.model.specs.Lent.{Lent, job_of, lent_well}
use Rattle.model.specs.declared.Turn.{Turn}
use Rattle.model.specs.declared.Line.{Line}
use Rattle.model.specs.declared.Line.TheVariants.{InRow, InColumn}
use Rattle.job_laws.proofs.Checked.{facts}

-- ── places ──

-- by the test across the line
places_at : (b : Bool) (n m : ℕ) → n ≤ 4096 → elim b as (λ _. ℕ) [ true ↦ suc n - m | false ↦ 0 ] ≤ 4097
places_at true n m h = omega arith
places_at false n m h = omega arith

-- the sheet's pixels along the line
line_extent : (l : Lent) → lent_well l ≡ true → (line : Line) → sheet_extent (line_direction line) (job_of l) ≤ 4096
unfolding job_of
line_extent l w (InRow r) = (facts l w).few_columns
line_extent l w (InColumn c) = let h = (facts l w).few_rows in omega arith

-- a line has at most 4,097 places
pub places_few : (l : Lent) → lent_well l ≡ true → (i : ℕ) (t : Turn) (line : Line) → places (job_of l) i t line ≤ 4097
unfolding places
places_few l w i t line =
    places_at
    (leb (held line + extent (other (line_direction line)) (turned_piece (job_of l) i t)) (sheet_extent (other (line_direction line)) (job_of l)))
    (sheet_extent (line_direction line) (job_of l)) (extent (line_direction line) (turned_piece (job_of l) i t)) (line_extent l w line)
