-- `search_lines::ordered` meets its contract: the two as they are, or exchanged and backwards. Assumes nothing.
use Rattle.list_laws.proofs.Kit.{subst, sym, rules}
use Rattle.model.specs.Lent.{Lent, lent_by}
use Rattle.search_lines.specs.declared.Two.{Two}
use Rattle.search_lines.specs.Sources.{SameLine, plain_source, back_source}
use Rattle.search_lines.proofs.Sourcing.{same_none, exchanged_same}
use Rattle.search_lines.proofs.ordered.Statement.{statement}
use Rattle.search_lines.proofs.ordered.Tie as tie

-- the lent job
abbrev lent : tie.Start → Lent
lent c = lent_by c.args.size c.args.table.now c.args.pixels.now

returns-then-two : tie.Need-returns-then-two
returns-then-two c =
    let e : tie.Start = search in
    let d = e.args.direction in
    subst (λ (x : Two). SameLine (lent e) (plain_source d e.args.two) (back_source d x)) (sym c.exchanged.ensures)
    (exchanged_same (lent e) e.args.two e.requires d)

returns : tie.Need-returns
returns c = let e : tie.Start = search in same_none (lent e) (plain_source e.args.direction e.args.two) e.requires

pub ordered_spec : {M : Type 1} → statement M
ordered_spec = tie.close (tie.spec
    (search rules) returns-then-two returns)
