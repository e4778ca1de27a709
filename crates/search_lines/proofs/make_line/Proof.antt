-- `search_lines::make_line` meets its contract: another source gives the same line. Assumes nothing.
use Rattle.list_laws.proofs.Kit.{subst, sym, arith, rules}
use Rattle.model.specs.Lent.{Lent, lent_by}
use Rattle.search_lines.specs.declared.Two.{Two}
use Rattle.search_lines.specs.Sources.{SameLine, plain_source}
use Rattle.search_lines.proofs.Making.{small_two}
use Rattle.search_lines.proofs.Sourcing.{same_on, classed_same, asked_named, asked_source, made_same}
use Rattle.search_lines.proofs.make_line.Statement.{statement}
use Rattle.search_lines.proofs.make_line.Tie as tie

-- the lent job
abbrev lent : tie.Start → Lent
lent c = lent_by c.args.size c.args.table.now c.args.pixels.now

classed-equal-requires : tie.Need-classed-equal-requires
classed-equal-requires c κs =
    let e : tie.Start = search in
    let s = small_two (lent e) _ _ e.args.two e.requires.0 in
    let m = s.moved in
    let n = s.standing in
    let room = e.requires.1.1.1.room in
    (omega arith, omega arith)

-- the entry, from where the classes are known
abbrev start : tie.After-classed-equal → tie.Start
start c = search

-- the classes of the two give the same line
equal : (c : tie.After-classed-equal)
    → SameLine (lent (start c)) (plain_source (start c).args.direction (start c).args.two) (plain_source (start c).args.direction c.classed-equal.result)
equal c =
    let e = start c in
    let d = e.args.direction in
    subst (λ (x : Two). SameLine (lent e) (plain_source d e.args.two) (plain_source d x)) (sym c.classed-equal.ensures)
    (classed_same (lent e) e.args.two (asked_named (lent e) _ _ e.args.two e.requires.0) e.args.maps.now e.requires.1.1.1.classes d)

ordered-first-requires : tie.Need-ordered-first-requires
ordered-first-requires c κs = let b : tie.After-classed-equal = search in (equal b).named

straight-source-requires : tie.Need-straight-source-requires
straight-source-requires c κs = c.ordered-first.ensures.named

-- the entry
abbrev entry : tie.After-straight-source → tie.Start
entry c = search

-- the source that is drawn
same : (c : tie.After-straight-source) → SameLine (lent (entry c)) (plain_source (entry c).args.direction (entry c).args.two) c.straight-source.result
same c =
    let a : tie.After-classed-equal = search in
    let b : tie.After-ordered-first = search in
    same_on (lent (entry c)) _ b.ordered-first.result _ (same_on (lent (entry c)) _ _ b.ordered-first.result (equal a) b.ordered-first.ensures) c.straight-source.ensures

draw_source-requires : tie.Need-draw_source-requires
draw_source-requires c κs =
    let b : tie.After-straight-source = search in
    let e = entry b in
    let s = same b in
    let n = s.places in
    (asked_source (lent e) e.args.direction _ _ e.args.two _ e.requires.0 s, (omega (arith, e.requires.1.0), (e.requires.1.1.0, e.requires.1.1.1)))

returns : tie.Need-returns
returns c =
    let b : tie.After-straight-source = search in
    let d : tie.After-draw_source = search in
    let e = entry b in (
      made_same (lent e) e.args.direction e.args.two _ e.args.lines.now e.args.at _ (same b) d.draw_source.ensures.0,
      d.draw_source.ensures.1,
    )

pub make_line_spec : {M : Type 1} → statement M
make_line_spec = tie.close (tie.spec
    classed-equal-requires ordered-first-requires straight-source-requires draw_source-requires (search rules) (search rules) returns)
