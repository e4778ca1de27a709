-- `search_line_store::put_short` meets its contract: a number's two bytes make it again. Assumes nothing.
use Rattle.list_laws.proofs.Kit.{arith, length-set, rules}
use Rattle.search_line_store.proofs.Stretching.{short_put}
use Rattle.search_line_store.proofs.put_short.Statement.{statement}
use Rattle.search_line_store.proofs.put_short.Tie as tie

bounds-bytes-at-2 : tie.Need-bounds-bytes-at-2
bounds-bytes-at-2 c = let e : tie.Start = search in let room = e.requires.0 in simp length-set (omega arith)

returns : tie.Need-returns
returns c = let e : tie.Start = search in short_put e.args.bytes.now e.args.at e.args.number e.requires.0

pub put_short_spec : {M : Type 1} → statement M
put_short_spec = tie.close (tie.spec
    (search rules) (search rules) (search rules) (search rules) bounds-bytes-at-2 (search rules) returns)
