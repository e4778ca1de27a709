-- Demand 1, the texts (document 01, 'Job text', 'Start, layout text, sheet' and 'When a call says no'): what reading gives and what
-- writing gives belong together, no other text is accepted, and no refusal comes without its cause. The last theorem says it
-- whole; its parts are proved in JobRead, JobReadBack, LentRead, JobExact, JobRefused, JobCauses, LayoutReadBack, LayoutExact,
-- LayoutRefused and LayoutCauses, and its words stand in specs/. Assumes nothing.
use Rattle.text_laws.specs.Texts.{Demand1Text}
use Rattle.text_laws.proofs.LayoutReadBack.{layout_read_back}
use Rattle.text_laws.proofs.JobRead.{job_read_well}
use Rattle.text_laws.proofs.LentRead.{lent_well_readable}
use Rattle.text_laws.proofs.JobExact.{job_read_exactly}
use Rattle.text_laws.proofs.JobRefused.{job_refusals}
use Rattle.text_laws.proofs.JobCauses.{job_causes}
use Rattle.text_laws.proofs.LayoutExact.{layout_only_text, layout_read_exactly}
use Rattle.text_laws.proofs.LayoutRefused.{layout_refusals}
use Rattle.text_laws.proofs.LayoutCauses.{layout_causes_lem}

-- it holds
pub demand1_text : Demand1Text
demand1_text =
    record {
      read_passes = job_read_well;
      check_exactly = lent_well_readable;
      written_read = layout_read_back;
      job_exactly = job_read_exactly;
      layout_only = layout_only_text;
      layout_exactly = layout_read_exactly;
      job_refused = job_refusals;
      job_caused = job_causes;
      layout_refused = layout_refusals;
      layout_caused = layout_causes_lem;
    }
