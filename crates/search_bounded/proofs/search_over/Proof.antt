-- `search_bounded::search_over` meets its contract: the least of the sums of all pieces, which are 0 at first. Assumes nothing.
use Rattle.list_laws.proofs.Kit.{◌∙◌, ap, arith, rules}
use Rattle.model.specs.Lent.{Lent, lent_by}
use Rattle.model.specs.Buffer.{layout_of}
use Rattle.search_line_sums.specs.Answers.{found_answer}
use Rattle.search_beside.proofs.Tracks.{places_most}
use Rattle.search_bounded.proofs.Searching.{summed_none, summed_found}
use Rattle.search_bounded.proofs.search_over.Statement.{statement}
use Rattle.search_bounded.proofs.search_over.Tie as tie

-- the lent job
abbrev lent : tie.Start → Lent
lent e = lent_by e.args.run.size e.args.table.now e.args.pixels.now

add_others-requires : tie.Need-add_others-requires
add_others-requires c κs =
    let e : tie.Start = search in
    let a = e.args in
    let o = e.requires.1.1.1.0 in
    let s = e.requires.1.1.1.1 in (
      e.requires.0,
      (
        e.requires.1.0,
        (
          e.requires.1.1.0,
          (
            o,
            summed_none (lent e) a.weights.now (layout_of a.layout.now) a.wanted.sweep.mover a.wanted.sweep.track a.wanted.bound _ o
                s.0 s.1,
          ),
        ),
      ),
    )

least_below-requires : tie.Need-least_below-requires
least_below-requires c κs =
    let x : tie.After-add_others = search in
    let e : tie.Start = search in
    let added = x.add_others.auto.sums in
    let places = e.requires.1.1.1.1.0 in
    let most = places_most (lent e) e.args.wanted.sweep.mover e.args.wanted.sweep.track e.requires.1.1.1.0 in
    omega arith

-- the entry, from where all are added
abbrev entry : tie.After-add_others → tie.Start
entry c = search

returns : tie.Need-returns
returns c =
    let y : tie.After-add_others = search in
    let e = entry y in
    let a = e.args in
    let x = y.add_others in (
      c.least_below.ensures
          ∙ ap found_answer
          (summed_found (lent e) a.weights.now a.layout.now a.wanted.sweep.mover a.wanted.bound x.new.sums
          e.requires.1.0 e.requires.1.1.0 e.requires.1.1.1.0.piece x.ensures.0),
      x.ensures.1,
    )

pub search_over_spec : {M : Type 1} → statement M
search_over_spec = tie.close (tie.spec
    add_others-requires least_below-requires (search rules) (search rules) (search rules) returns)
