-- `search_beside::near_bit` meets its contract: where the boxes do not meet across, the two are apart. Assumes nothing.
use Rattle.list_laws.proofs.Kit.{arith, rules}
use mathlib.Core.List.{[]}
use Rattle.model.specs.Lent.{lent_by}
use Rattle.model.specs.Buffer.{layout_of}
use Rattle.search_beside.proofs.Outside.{apart_zero}
use Rattle.search_beside.proofs.near_bit.Statement.{statement}
use Rattle.search_beside.proofs.near_bit.Tie as tie

-- the standing piece's numbers are small, whatever the job
meets_across-requires : tie.Need-meets_across-requires
meets_across-requires c κs =
    let at-start : tie.Start = search in
    (at-start.requires.0, (c.beside-standing.ensures []).small)

returns-then-meets_across : tie.Need-returns-then-meets_across
returns-then-meets_across c = (omega arith, λ pixels track e. absurd (omega arith))

returns : tie.Need-returns
returns c =
    let at-start : tie.Start = search in
    let at-beside : tie.After-beside-standing = search in
    let at_meets : tie.After-meets_across = search in
    let a = at-start.args in (
      omega arith,
      λ pixels track e x.
          apart_zero (lent_by a.size a.table.now pixels) (layout_of a.layout.now) a.mover a.track at-beside.beside-standing.result a.k track
          (at-beside.beside-standing.ensures pixels) x (at_meets.meets_across.ensures.apart c.if-meets_across.false x),
    )

pub near_bit_spec : {M : Type 1} → statement M
near_bit_spec = tie.close (tie.spec
    (search rules) meets_across-requires returns-then-meets_across returns)
