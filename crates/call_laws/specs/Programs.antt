-- What the program prints for a job that is read (document 01, 'Start, layout text, sheet'). The theorem is `program_prints` in
-- proofs/Programs. Assumes nothing.
use Rattle.std.specs.Prelude.{List, ◌≡◌, ℕ}
use Rattle.model.specs.Layout.{unit_weights}
use Rattle.model.specs.Buffer.{entries_of}
use Rattle.model.specs.Guided.{rounds}
use Rattle.model.specs.Start.{start_of_all, program_start}
use Rattle.model.specs.Lent.{Lent, job_of}
use Rattle.model.specs.Refusal.{given}
use Rattle.model.specs.Program.{program_rounds, program_budget, run_text, program_run, program_text}
use Rattle.model.specs.Calls.{start_call, guided_call}
use Rattle.descent_laws.specs.Claims.{GuidedClaims}

-- what the program prints for an input of at most 65,536 bytes that is read as the job l
pub record Prints (input : List ℕ) (l : Lent) : Type 0 where
  -- the calls give the start layout, from the placements of the start of all pieces, and the run, and its text is printed
  pub begins : start_call l (entries_of (start_of_all (job_of l))) ≡ given (program_start (job_of l))
  pub run : guided_call l (entries_of (program_start (job_of l))) (unit_weights (job_of l).size.count) program_rounds program_budget ≡ given (program_run (job_of l))
  pub text : program_text input ≡ run_text (job_of l) (program_run (job_of l))
  -- demand 3's claims hold of the run
  pub claims : GuidedClaims (job_of l) (unit_weights (job_of l).size.count) program_rounds program_budget (program_start (job_of l))
      (rounds (job_of l) program_rounds program_budget (unit_weights (job_of l).size.count) (program_start (job_of l))) (program_run (job_of l))
