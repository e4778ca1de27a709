-- `search_lines::grown_sides` meets its contract: the turned boxes' columns and rows, grown. Assumes nothing.
use Rattle.list_laws.proofs.Kit.{ap₂, ◌+◌, ℕ, rules}
use Rattle.piece_pixels.specs.declared.Sides as box
use Rattle.search_maps.specs.declared.Sides.{Sides}
use Rattle.search_lines.proofs.grown_sides.Statement.{statement}
use Rattle.search_lines.proofs.grown_sides.Tie as tie

-- the sides of two boxes along rows, grown by m and by n
abbrev in_rows : ℕ → ℕ → box.Sides → box.Sides → Sides
in_rows m n a b =
    record {
      moved_along = a.columns + m;
      moved_across = a.rows + m;
      standing_along = b.columns + n;
      standing_across = b.rows + n;
    }

returns : tie.Need-returns
returns c =
    let e : tie.Start = search in
    let at-turned-sides : tie.After-turned_sides-moved = search in
    let at-turned-sides2 : tie.After-turned_sides-standing = search in
    λ size pixels.
    ap₂ (in_rows e.args.moved_by e.args.standing_by) (at-turned-sides.turned_sides-moved.ensures.0 size pixels)
    (at-turned-sides2.turned_sides-standing.ensures.0 size pixels)

pub grown_sides_spec : {M : Type 1} → statement M
grown_sides_spec =
    tie.close (tie.spec
    (search rules) (search rules) (search rules) (search rules) (search rules) (search rules) returns)
