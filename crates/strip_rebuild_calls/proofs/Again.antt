-- What rebuilding leaves in the buffer, for the strips of a set: that set's pixels. Assumes nothing.
use Rattle.list_laws.proofs.Kit.{◌∙◌, ◌≡◌, ap, refl, List, ℕ, length}
use Rattle.model.specs.Buffer.{filled}
use Rattle.model.specs.Calls.{rebuild_call, pixels_after}
use Rattle.model.specs.declared.Direction.{Direction}
use Rattle.call_laws.specs.Rebuilding.{PieceOf, RebuiltAs}
use Rattle.call_laws.proofs.Rebuilding.{rebuilt_back}
use Rattle.strip_rebuild_calls.specs.Again.{Again}

-- the buffer after the call holds the set's pixels
pub after_again : (d : Direction) (l w : ℕ) (es : List (List ℕ)) (before after : List ℕ)
    → after ≡ pixels_after before (rebuild_call d l w es (length before)) → Again d l w es before after
after_again d l w es before after e s p c r space =
    let piece : PieceOf d s.columns s.rows es s = record { columns = refl; rows = refl; is_tight = p.is_tight; are = p.are } in
    let b : RebuiltAs d es s (length before) =
    rebuilt_back d es s (length before) piece (rw p.columns c) (rw p.rows r) (rw (p.columns, p.rows) space) in
    let given_is : rebuild_call d l w es (length before) ≡ rebuild_call d s.columns s.rows es (length before) = rw (p.columns, p.rows) in
    e ∙ ap (pixels_after before) (given_is ∙ b.gives) ∙ ap (λ x. filled x before) b.bytes
