-- `search_lines::turned_two` meets its contract. Assumes nothing.
use Rattle.list_laws.proofs.Kit.{ap₂, ℕ, rules}
use Rattle.model.specs.declared.Turn.{Turn}
use Rattle.search_lines.specs.declared.Two.{Two}
use Rattle.search_lines.proofs.turned_two.Statement.{statement}
use Rattle.search_lines.proofs.turned_two.Tie as tie

-- the two pieces in given turns, at an offset
abbrev with_turns : Two → ℕ → Turn → Turn → Two
with_turns two o t u = record { moved = two.moved; moved_turn = t; standing = two.standing; standing_turn = u; offset = o }

returns : tie.Need-returns
returns c =
    let e : tie.Start = search in
    ap₂ (with_turns e.args.two e.args.offset) c.before.turn_before.ensures c.turn_before-2.ensures

pub turned_two_spec : {M : Type 1} → statement M
turned_two_spec = tie.close (tie.spec
    (search rules) (search rules) returns)
