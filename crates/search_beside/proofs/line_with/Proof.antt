-- `search_beside::line_with` meets its contract: a kept line serves every two corners with its offset across. Assumes nothing.
use Rattle.list_laws.proofs.Kit.{rules}
use Rattle.model.specs.Lent.{Lent, lent_by}
use Rattle.search_beside.proofs.Readings.{line_asked, line_ready, line_read_lem}
use Rattle.search_beside.proofs.line_with.Statement.{statement}
use Rattle.search_beside.proofs.line_with.Tie as tie

-- the lent job
abbrev lent : tie.Start → Lent
lent e = lent_by e.args.run.size e.args.table.now e.args.pixels.now

keep_line-requires : tie.Need-keep_line-requires
keep_line-requires c κs =
    let e : tie.Start = search in
    let a = e.args in (
      line_asked (lent e) a.run a.strips.now a.starts.now a.lines.now a.maps.now a.sweep.mover a.sweep.track a.standing a.k
          e.requires.0 e.requires.1.0 e.requires.1.1.0.0 e.requires.1.1.0.1.1 e.requires.1.1.1,
      (e.requires.0.fit, e.requires.0.kept),
    )

returns : tie.Need-returns
returns c =
    let k : tie.After-keep_line = search in
    let d : tie.After-direction_of = search in
    let e : tie.Start = search in
    let a = e.args in
    let x = k.keep_line in (
      line_read_lem (lent e) a.run a.strips.now a.starts.now a.lines.now a.maps.now a.sweep.mover a.sweep.track a.standing a.k
          e.requires.0 e.requires.1.0 e.requires.1.1.0.0 d.direction_of.result d.direction_of.ensures e.requires.1.1.0.1.0 _
          x.result x.ensures.0
          x.ensures.1.0,
      line_ready (lent e) a.run a.strips.now a.starts.now a.lines.now a.maps.now a.sweep.mover a.sweep.track a.standing a.k
          e.requires.0 e.requires.1.0 e.requires.1.1.0.0 _ _ x.ensures.1.1.0 x.ensures.1.1.1,
    )

pub line_with_spec : {M : Type 1} → statement M
line_with_spec = tie.close (tie.spec
    (search rules) (search rules) (search rules) keep_line-requires (search rules) (search rules) returns)
