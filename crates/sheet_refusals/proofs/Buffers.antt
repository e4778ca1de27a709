-- What is known of a lent job and a count buffer that no cause of a buffer refuses. Assumes nothing.
use Rattle.std.specs.Prelude.{Ok}
use Rattle.list_laws.proofs.Kit.{◌≡◌, true, ◌*◌, ℕ, eqb, eqb-true, not-false}
use Rattle.model.specs.Answers.{first_cause}
use Rattle.model.specs.Lent.{Lent, lent_well}
use Rattle.text_laws.specs.Outcomes.{NoCause}
use Rattle.text_laws.proofs.Causes.{passed_none}
use Rattle.sheet_refusals.specs.Causes.{buffer_causes}

-- the job is well and there is a count for each pixel
pub record BufferPassed (l : Lent) (room : ℕ) : Type 0 where
  pub well : lent_well l ≡ true
  pub full : room ≡ l.size.rows * l.size.columns
  pub absent : NoCause (buffer_causes l room)

-- where none refuses, the buffer passes
pub buffer_passed : (l : Lent) (room : ℕ) → Ok tt ≡ first_cause (buffer_causes l room) → BufferPassed l room
buffer_passed l room e =
    let absent = passed_none (buffer_causes l room) e in
    record {
      well = not-false (lent_well l) absent.0;
      full = eqb-true room (l.size.rows * l.size.columns) (not-false (eqb room (l.size.rows * l.size.columns)) absent.1.0);
      absent = absent;
    }
