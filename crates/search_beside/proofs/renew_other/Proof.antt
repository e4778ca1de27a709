-- `search_beside::renew_other` meets its contract: the mover itself is passed over, else both entries are set. Assumes nothing.
use Rattle.list_laws.proofs.Kit.{◌∙◌, sym, arith, length-set, rules}
use Rattle.model.specs.Piece.{on_line}
use Rattle.model.specs.Lent.{lent_by, job_of}
use Rattle.model.specs.Buffer.{layout_of}
use Rattle.job_laws.proofs.Checked.{facts}
use Rattle.search_laws.proofs.PieceSum.{penalty_on_lem}
use Rattle.search_laws.proofs.Table.{renewed_step}
use Rattle.search_beside.proofs.Renewing.{renewed_own}
use Rattle.search_beside.proofs.renew_other.Statement.{statement}
use Rattle.search_beside.proofs.renew_other.Tie as tie

returns-then-k-i : tie.Need-returns-then-k-i
returns-then-k-i c =
    let at-start : tie.Start = search in
    let a = at-start.args in
    let j = job_of (lent_by a.run.size a.table.now a.pixels.now) in
    let p = on_line a.sweep.mover.line a.sweep.mover.turn a.at in (
      renewed_own j (layout_of a.layout.now) a.run.size.count a.sweep.mover.piece p a.k a.penalties.now
          c.if-k-i.true at-start.requires.1.1.1.1,
      at-start.requires.0,
    )

penalty_at-p-requires : tie.Need-penalty_at-p-requires
penalty_at-p-requires c κs =
    let at-start : tie.Start = search in
    let at-else1 : tie.Else-k-i = search in
    let p = at-start.requires.1.1.1.0 in
    (at-start.requires.0, (at-start.requires.1.0, (at-start.requires.1.1.0, ((p.0, λ q. at-else1.if-k-i.false (sym q)), p.1))))

overflow_mul-penalties : tie.Need-overflow_mul-penalties
overflow_mul-penalties c =
    let at-start : tie.Start = search in
    let few = (facts _ at-start.requires.0.well).few_pieces in
    let i = at-start.requires.1.1.0.piece in
    let k = at-start.requires.1.1.1.0.0 in
    let size = at-start.requires.1.1.1.1.size in
    omega arith

overflow_add-penalties : tie.Need-overflow_add-penalties
overflow_add-penalties c =
    let at-start : tie.Start = search in
    let few = (facts _ at-start.requires.0.well).few_pieces in
    let i = at-start.requires.1.1.0.piece in
    let k = at-start.requires.1.1.1.0.0 in
    let size = at-start.requires.1.1.1.1.size in
    omega arith

bounds-penalties-i : tie.Need-bounds-penalties-i
bounds-penalties-i c =
    let at-start : tie.Start = search in
    let few = (facts _ at-start.requires.0.well).few_pieces in
    let i = at-start.requires.1.1.0.piece in
    let k = at-start.requires.1.1.1.0.0 in
    let size = at-start.requires.1.1.1.1.size in
    omega arith

overflow_mul-penalties-2 : tie.Need-overflow_mul-penalties-2
overflow_mul-penalties-2 c =
    let at-start : tie.Start = search in
    let few = (facts _ at-start.requires.0.well).few_pieces in
    let i = at-start.requires.1.1.0.piece in
    let k = at-start.requires.1.1.1.0.0 in
    let size = at-start.requires.1.1.1.1.size in
    omega arith

overflow_add-penalties-2 : tie.Need-overflow_add-penalties-2
overflow_add-penalties-2 c =
    let at-start : tie.Start = search in
    let few = (facts _ at-start.requires.0.well).few_pieces in
    let i = at-start.requires.1.1.0.piece in
    let k = at-start.requires.1.1.1.0.0 in
    let size = at-start.requires.1.1.1.1.size in
    omega arith

returns : tie.Need-returns
returns c =
    let at-penalty-at : tie.After-penalty_at-p = search in
    let at-else1 : tie.Else-k-i = search in
    let at-start : tie.Start = search in
    let a = at-start.args in
    let j = job_of (lent_by a.run.size a.table.now a.pixels.now) in
    let p = on_line a.sweep.mover.line a.sweep.mover.turn a.at in
    let x = at-penalty-at.penalty_at-p in (
      renewed_step j (layout_of a.layout.now) a.run.size.count a.sweep.mover.piece p a.k x.result a.penalties.now
          (facts _ at-start.requires.0.well).few_pieces at-start.requires.1.1.0.piece at-start.requires.1.1.1.0.0
          (λ q. at-else1.if-k-i.false (sym q))
          (x.ensures.0
          ∙ sym (penalty_on_lem j (layout_of a.layout.now) a.sweep.mover.piece a.sweep.mover.turn a.sweep.mover.line a.at a.k))
          at-start.requires.1.1.1.1,
      x.ensures.1,
    )

pub renew_other_spec : {M : Type 1} → statement M
renew_other_spec =
    tie.close (tie.spec
    returns-then-k-i penalty_at-p-requires overflow_mul-penalties overflow_add-penalties bounds-penalties-i overflow_mul-penalties-2
    overflow_add-penalties-2
    (λ c. let at-start : tie.Start = search in let few = (facts _ at-start.requires.0.well).few_pieces in
    let i = at-start.requires.1.1.0.piece in let k = at-start.requires.1.1.1.0.0 in let size = at-start.requires.1.1.1.1.size in
    simp length-set (omega arith))
    (search rules) (search rules) (search rules) returns)
