-- `search_tracks::standing_of` meets its contract, by the direction. Assumes nothing.
use Rattle.model.specs.Lent.{lent_by, job_of}
use Rattle.model.specs.Buffer.{layout_of}
use Rattle.search_tracks.proofs.Tracks.{standing_row, standing_column}
use Rattle.list_laws.proofs.Kit.{arith, rules}
use Rattle.search_tracks.proofs.standing_of.Statement.{statement}
use Rattle.search_tracks.proofs.standing_of.Tie as tie

-- where the sides are known, from where they are read
abbrev sided : tie.After-struct_known-6-1 → tie.After-turned_sides-sides
sided c = c.before.before.before.before.before.before

overflow_add-columns : tie.Need-overflow_add-columns
overflow_add-columns c =
    let at-sides : tie.After-turned_sides-sides = c.before.before in
    let at-start : tie.Start = search in
    let l = at-sides.turned_sides-sides.ensures.1.0 in
    let g = at-start.requires.1 in
    omega arith

overflow_add-rows : tie.Need-overflow_add-rows
overflow_add-rows c =
    let at-sides : tie.After-turned_sides-sides = c.before.before.before.before in
    let at-start : tie.Start = search in
    let l = at-sides.turned_sides-sides.ensures.1.1 in
    let g = at-start.requires.1 in
    omega arith

returns-in-Horizontal : tie.Need-returns-in-Horizontal
unfolding job_of
returns-in-Horizontal c =
    let told : tie.In-Horizontal = search in
    let known : tie.After-struct_known-6-1 = search in
    let at-sides : tie.After-turned_sides-sides = sided known in
    let at_place : tie.After-place_at-place = search in
    let at-start : tie.Start = search in
    let a = at-start.args in
    let p = at_place.place_at-place in
    let s = at-sides.turned_sides-sides in (
      λ pixels.
          standing_row (job_of (lent_by a.size a.table.now pixels)) (layout_of a.layout.now) a.k p.result s.result p.ensures
          (s.ensures.0 a.size pixels) a.direction told.in-Horizontal.is,
      record {
        along = let k = known.before.struct_known-5-1.given in search rules;
        across = let k = known.struct_known-6-1.given.1 in search rules;
        length = let g = at-start.requires.1 in let l = s.ensures.1.0 in let w = s.ensures.1.1 in omega arith;
        width = let g = at-start.requires.1 in let l = s.ensures.1.0 in let w = s.ensures.1.1 in omega arith;
      },
    )

returns-in-Vertical : tie.Need-returns-in-Vertical
unfolding job_of
returns-in-Vertical c =
    let told : tie.In-Vertical = search in
    let known : tie.After-struct_known-6-1 = search in
    let at-sides : tie.After-turned_sides-sides = sided known in
    let at_place : tie.After-place_at-place = search in
    let at-start : tie.Start = search in
    let a = at-start.args in
    let p = at_place.place_at-place in
    let s = at-sides.turned_sides-sides in (
      λ pixels.
          standing_column (job_of (lent_by a.size a.table.now pixels)) (layout_of a.layout.now) a.k p.result s.result p.ensures
          (s.ensures.0 a.size pixels) a.direction told.in-Vertical.is,
      record {
        along = let k = known.struct_known-6-1.given.1 in search rules;
        across = let k = known.before.struct_known-5-1.given in search rules;
        length = let g = at-start.requires.1 in let l = s.ensures.1.0 in let w = s.ensures.1.1 in omega arith;
        width = let g = at-start.requires.1 in let l = s.ensures.1.0 in let w = s.ensures.1.1 in omega arith;
      },
    )

pub standing_of_spec : {M : Type 1} → statement M
standing_of_spec =
    tie.close (tie.spec
    (search rules) (search rules) overflow_add-columns overflow_add-rows (search rules) (search rules) (search rules) (search rules)
    returns-in-Horizontal returns-in-Vertical)
