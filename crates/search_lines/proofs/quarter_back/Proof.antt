-- `search_lines::quarter_back` meets its contract: by the direction, backwards or at the mirrored offset. Assumes nothing.
use Rattle.list_laws.proofs.Kit.{◌∙◌, ap, not, rules}
use Rattle.model.specs.declared.Direction.TheVariants.{Horizontal, Vertical}
use Rattle.search_lines.specs.declared.Two.{Two}
use Rattle.search_lines.specs.Sources.{turned_two}
use Rattle.search_lines.proofs.quarter_back.Statement.{statement}
use Rattle.search_lines.proofs.quarter_back.Tie as tie

mirrored_offset-requires : tie.Need-mirrored_offset-requires
mirrored_offset-requires c κs = let e : tie.Start = search in e.requires

returns-in-Horizontal : tie.Need-returns-in-Horizontal
returns-in-Horizontal c =
    let e : tie.Start = search in
    let told : tie.In-Horizontal = search in
    rw told.in-Horizontal.is
    (ap (λ (x : Two). record { two = x; direction = Vertical; back = not e.args.source.back }) c.before.turned_two.ensures)

returns-in-Vertical : tie.Need-returns-in-Vertical
returns-in-Vertical c =
    let e : tie.Start = search in
    let told : tie.In-Vertical = search in
    rw told.in-Vertical.is
    (ap (λ (x : Two). record { two = x; direction = Horizontal; back = e.args.source.back })
    (c.turned_two-in-Vertical.ensures ∙ ap (turned_two e.args.source.two) c.before.mirrored_offset.ensures))

pub quarter_back_spec : {M : Type 1} → statement M
quarter_back_spec =
    tie.close (tie.spec
    (search rules) (search rules) (search rules) mirrored_offset-requires (search rules) returns-in-Horizontal returns-in-Vertical)
