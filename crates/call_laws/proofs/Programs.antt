-- Document 01, 'Start, layout text, sheet', the program: what it prints for a job that is read is the text of the guided run that the public
-- calls give, from the start layout by weights 1, which no call refuses, and demand 3's claims hold of that run. Assumes nothing.
use Rattle.list_laws.proofs.Kit.{◌∙◌, ◌≡◌, ap, refl, true, List, ◌<◌, ◌≤◌, ℕ, arith, length, le-ltb, lt-ltb}
use Rattle.model.specs.Layout.{unit_weights}
use Rattle.model.specs.Buffer.{entries_of}
use Rattle.model.specs.Start.{start_of_all, program_start}
use Rattle.model.specs.Lent.{Lent, job_of, lent_well, piece_bound, area_bound}
use Rattle.model.specs.Refusal.{refused, given, wrong_length}
use Rattle.model.specs.JobText.{read_job}
use Rattle.model.specs.Program.{program_rounds, program_budget, input_bound, refusal_text, program_run, printed, program_text}
use Rattle.model.specs.Calls.{guided_call}
use Rattle.model.specs.declared.Refusal.{Refusal}
use Rattle.text_laws.proofs.JobRead.{job_read_well}
use Rattle.descent_laws.proofs.Guided.{unit_valid}
use Rattle.descent_laws.proofs.Lent.{lent_start_of_all_valid, lent_start_valid, lent_demand3}
use Rattle.call_laws.specs.Programs.{Prints}
use Rattle.call_laws.proofs.Runs.{guided_taken}
use Rattle.call_laws.proofs.Texts.{start_taken}

-- the program's run of a lent job is the guided run that the call gives, from the start layout by weights 1
pub program_run_given : (l : Lent) → lent_well l ≡ true
    → guided_call l (entries_of (program_start (job_of l))) (unit_weights (job_of l).size.count) program_rounds program_budget ≡ given (program_run (job_of l))
unfolding program_run
program_run_given l well =
    guided_taken l well (program_start (job_of l)) (lent_start_valid l well) (unit_weights (job_of l).size.count) (unit_valid (job_of l)) program_rounds
    program_budget refl (omega arith)

-- an input that is not too long is read
pub program_reads : (input : List ℕ) → length input ≤ input_bound → program_text input ≡ printed (read_job input piece_bound area_bound)
unfolding program_text
program_reads input few = rw (le-ltb _ _ few, program_text)

-- it prints so
pub program_prints : (input : List ℕ) (l : Lent) → length input ≤ input_bound → read_job input piece_bound area_bound ≡ given l → Prints input l
unfolding program_run
program_prints input l few e =
    let well : lent_well l ≡ true = job_read_well input piece_bound area_bound l e in
    record {
      begins = start_taken l well (start_of_all (job_of l)) (lent_start_of_all_valid l well);
      run = program_run_given l well;
      text = program_reads input few ∙ ap printed e;
      claims = (lent_demand3 l well).guided_runs program_rounds program_budget;
    }

-- a job that the reader refuses prints its refusal
pub program_refuses : (input : List ℕ) (r : Refusal) → length input ≤ input_bound → read_job input piece_bound area_bound ≡ refused r
    → program_text input ≡ refusal_text r
program_refuses input r few e = program_reads input few ∙ ap printed e

-- an input above 65,536 bytes prints `refused,7,0`, whatever its bytes are
pub program_too_long : (input : List ℕ) → input_bound < length input
    → program_text input ≡ refusal_text (record { number = wrong_length; first = 0; second = 0 })
unfolding program_text
program_too_long input many = rw (lt-ltb input_bound (length input) many, program_text)
