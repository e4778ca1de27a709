-- `lines_of`: the first listing has no entries to write to and tells the number. Assumes nothing.
use Rattle.list_laws.proofs.Kit.{◌∙◌, ◌≡◌, ap, sym, [], ◌<◌, ◌≤◌, length, rules}
use Rattle.model.specs.Refusal.{refused, given}
use Rattle.model.specs.Answers.{count_answer}
use Rattle.model.specs.Calls.{lines_after}
use Rattle.list_laws.proofs.Lists.{nothing_left}
use Rattle.cut_list.specs.Owned.{owned_lines, in_room}
use Rattle.cut_list.proofs.Listed.{short_room, enough_room, room_filled}
use Rattle.cut_list.proofs.lines_of.Statement.{statement}
use Rattle.cut_list.proofs.lines_of.Tie as tie

returns-then-lines-needed : tie.Need-returns-then-lines-needed
returns-then-lines-needed c =
    let s : tie.Start = search in
    let first : tie.After-list_lines-needed = search in
    let ls = owned_lines s.args.size s.args.owners.now in
    let part = first.list_lines-needed in
    let none : part.new.lines ≡ [] = nothing_left _ part.auto.lines in
    let short : length s.args.lines.now < length ls = rw (none, part.ensures.0) at c.before.if-lines-needed.true in
    let o : in_room ls (length s.args.lines.now) ≡ refused c.plain_refusal.result =
    short_room ls _ short ∙ sym (ap refused c.plain_refusal.ensures) in
    (sym (ap count_answer o), rw none (sym (ap (lines_after s.args.lines.now) o)))

returns : tie.Need-returns
returns c =
    let s : tie.Start = search in
    let e : tie.Else-lines-needed = search in
    let first : tie.After-list_lines-needed = search in
    let ls = owned_lines s.args.size s.args.owners.now in
    let part = first.list_lines-needed in
    let none : part.new.lines ≡ [] = nothing_left _ part.auto.lines in
    let long : length ls ≤ length s.args.lines.now = rw (none, part.ensures.0) at e.if-lines-needed.false in
    let o : in_room ls (length s.args.lines.now) ≡ given ls = enough_room ls _ long in (
      rw part.ensures.0 (sym (ap count_answer o)),
      rw none at c.before.list_lines.ensures.1 ∙ room_filled ls s.args.lines.now long ∙ sym (ap (lines_after s.args.lines.now) o),
    )

pub lines_of_spec : {M : Type 1} → statement M
lines_of_spec =
    tie.close (tie.spec
    (search rules) (search rules) (search rules) (search rules) (search rules) returns-then-lines-needed (search rules) (search rules) returns)
