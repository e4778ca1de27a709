-- What a layout that is pushed left and down by the call means (document 02, point 7). The theorem is `compact_given` in proofs/Compacting. Assumes
-- nothing.
use Rattle.std.specs.Prelude.{List, ◌≡◌, ℕ}
use Rattle.model.specs.Lent.{Lent, job_of}
use Rattle.model.specs.Buffer.{layout_of}
use Rattle.model.specs.Refusal.{given}
use Rattle.model.specs.Compact.{at_rest}
use Rattle.model.specs.Calls.{check_call, compact_call}
use Rattle.compact_laws.specs.Claims.{CompactClaims}

-- what is said of the layout buffer after the call and the pixels that it tells, where the lent layout was pushed
pub record CompactedClaims (l : Lent) (before after : List (List ℕ)) (slid : ℕ) : Type 0 where
  -- what the request says of the layout and the pixels
  pub claims : CompactClaims (job_of l) (layout_of before) (record { layout = layout_of after; slid = slid })
  -- the buffer passes the check
  pub checked : check_call l after ≡ given tt
  -- and pushing it again is taken and slides nothing
  pub again : compact_call l after ≡ given (at_rest (layout_of after))
