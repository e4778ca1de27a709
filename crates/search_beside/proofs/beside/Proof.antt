-- `search_beside::beside` meets its contract. Assumes nothing.
use Rattle.list_laws.proofs.Kit.{rules}
use Rattle.search_beside.proofs.beside.Statement.{statement}
use Rattle.search_beside.proofs.beside.Tie as tie

returns : tie.Need-returns
returns c = λ pixels.
    let a = c.before.before.args in
    let s = c.standing_of in
    let d = c.before.direction_of in
    record {
      is = rw d.ensures at (s.ensures.0 pixels);
      small = s.ensures.1;
    }

pub beside_spec : {M : Type 1} → statement M
beside_spec = tie.close (tie.spec
    (search rules) (search rules) returns)
