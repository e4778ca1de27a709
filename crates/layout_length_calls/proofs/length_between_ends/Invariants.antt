-- `layout_length_calls::length_between_ends`: the largest right end and the smallest corner x of the pieces passed. Assumes nothing.
use Rattle.list_laws.proofs.Kit.{◌≡◌, List, ℕ}
use Rattle.model.specs.Layout.{rightmost, leftmost}
use Rattle.model.specs.Lent.{lent_by, job_of}
use Rattle.model.specs.Buffer.{layout_of}
use Rattle.layout_length_calls.proofs.length_between_ends.Given as goal

abbrev pub invariant-loop-i : goal.invariant-loop-i
invariant-loop-i l =
    ((pixels : List ℕ) → l.last ≡ rightmost (job_of (lent_by l.fn.size l.table pixels)) (layout_of l.layout) l.i)
    × (l.first ≡ leftmost (layout_of l.layout) l.i)
