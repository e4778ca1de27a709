-- `search_lines::put_key` meets its contract: a number's four bytes make it again. Assumes nothing.
use Rattle.list_laws.proofs.Kit.{arith, length-set, rules}
use Rattle.search_lines.proofs.Keeping.{key_put}
use Rattle.search_lines.proofs.put_key.Statement.{statement}
use Rattle.search_lines.proofs.put_key.Tie as tie

bounds-lines-at-2 : tie.Need-bounds-lines-at-2
bounds-lines-at-2 c = let e : tie.Start = search in let room = e.requires.0 in simp length-set (omega arith)

bounds-lines-at-3 : tie.Need-bounds-lines-at-3
bounds-lines-at-3 c = let e : tie.Start = search in let room = e.requires.0 in simp length-set (omega arith)

bounds-lines-at-4 : tie.Need-bounds-lines-at-4
bounds-lines-at-4 c = let e : tie.Start = search in let room = e.requires.0 in simp length-set (omega arith)

returns : tie.Need-returns
returns c = let e : tie.Start = search in key_put e.args.lines.now e.args.at e.args.key e.requires.0

pub put_key_spec : {M : Type 1} → statement M
put_key_spec =
    tie.close (tie.spec
    (search rules) (search rules) (search rules) (search rules) bounds-lines-at-2 (search rules) (search rules) bounds-lines-at-3 (search rules)
    (search rules) bounds-lines-at-4 (search rules) returns)
