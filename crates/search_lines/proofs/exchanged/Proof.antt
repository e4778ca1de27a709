-- `search_lines::exchanged` meets its contract. Assumes nothing.
use Rattle.list_laws.proofs.Kit.{ap, ℕ, rules}
use Rattle.search_lines.specs.declared.Two.{Two}
use Rattle.search_lines.proofs.exchanged.Statement.{statement}
use Rattle.search_lines.proofs.exchanged.Tie as tie

-- the exchanged two with an offset
abbrev with_offset : Two → ℕ → Two
with_offset two n =
    record { moved = two.standing; moved_turn = two.standing_turn; standing = two.moved; standing_turn = two.moved_turn; offset = n }

returns : tie.Need-returns
returns c =
    let at-start : tie.Start = search in
    let at_less : tie.After-less = search in
    ap (with_offset at-start.args.two) at_less.less.ensures

pub exchanged_spec : {M : Type 1} → statement M
exchanged_spec = tie.close (tie.spec
    (search rules) returns)
