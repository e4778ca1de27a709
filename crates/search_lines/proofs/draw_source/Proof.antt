-- `search_lines::draw_source` meets its contract: the line of the two, forwards or backwards. Assumes nothing.
use Rattle.list_laws.proofs.Kit.{subst, sym, Bool, rules}
use Rattle.model.specs.Lent.{Lent, lent_by}
use Rattle.search_lines.specs.Sources.{SourceMade}
use Rattle.search_lines.proofs.Sourcing.{made_plain}
use Rattle.search_lines.proofs.draw_source.Statement.{statement}
use Rattle.search_lines.proofs.draw_source.Tie as tie

-- the lent job
abbrev lent : tie.Start → Lent
lent c = lent_by c.args.size c.args.table.now c.args.pixels.now

draw_back-requires : tie.Need-draw_back-requires
draw_back-requires c κs = let e : tie.Start = search in e.requires

draw_line-requires : tie.Need-draw_line-requires
draw_line-requires c κs = let e : tie.Start = search in e.requires

returns-then-source : tie.Need-returns-then-source
returns-then-source c =
    let e : tie.Start = search in
    let b : tie.After-draw_back = search in
    let t : tie.Then-source = search in
    let a = e.args.source in (
      subst (λ (x : Bool). SourceMade (lent e) (record { two = a.two; direction = a.direction; back = x }) e.args.lines.now e.args.at
          b.draw_back.new.lines) (sym t.if-source.true) b.draw_back.ensures.0,
      b.draw_back.ensures.1,
    )

returns : tie.Need-returns
returns c =
    let e : tie.Start = search in
    let b : tie.After-draw_line = search in
    let t : tie.Else-source = search in
    let a = e.args.source in (
      subst (λ (x : Bool). SourceMade (lent e) (record { two = a.two; direction = a.direction; back = x }) e.args.lines.now e.args.at
          b.draw_line.new.lines) (sym t.if-source.false)
          (made_plain (lent e) a.direction a.two e.args.lines.now e.args.at _ b.draw_line.ensures.0),
      b.draw_line.ensures.1.0,
    )

pub draw_source_spec : {M : Type 1} → statement M
draw_source_spec =
    tie.close (tie.spec
    draw_back-requires (search rules) (search rules) returns-then-source draw_line-requires (search rules) (search rules) returns)
