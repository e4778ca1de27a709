-- `search_lines::mirrored_offset` meets its contract: the boxes' sides are small. Assumes nothing.
use Rattle.list_laws.proofs.Kit.{◌∙◌, ◌≡◌, ap, ap₂, ◌+◌, ◌-◌, ◌≤◌, ℕ, arith, rules}
use Rattle.model.specs.Lent.{Lent, lent_by}
use Rattle.model.specs.declared.Direction.TheVariants.{Horizontal}
use Rattle.overlap_laws.specs.Grown.{wide_bound}
use Rattle.search_laws.specs.Lines.{middle}
use Rattle.search_maps.specs.declared.Sides.{Sides}
use Rattle.search_lines.specs.Making.{moved_shape, standing_shape}
use Rattle.search_lines.proofs.Sourcing.{named_entries, moved_small, standing_small}
use Rattle.search_lines.proofs.mirrored_offset.Statement.{statement}
use Rattle.search_lines.proofs.mirrored_offset.Tie as tie

-- the lent job
abbrev lent : tie.Start → Lent
lent c = lent_by c.args.size c.args.table.now c.args.pixels.now

sides_of-sides-requires : tie.Need-sides_of-sides-requires
sides_of-sides-requires c κs =
    let e : tie.Start = search in
    named_entries (lent e) e.args.two e.requires

-- the sides, which are small
sides : (c : tie.After-sides_of-sides)
    →
    let e : tie.Start = search in
    (c.sides_of-sides.result.moved_along ≡ (moved_shape (lent e) e.args.two).columns)
    × (c.sides_of-sides.result.standing_along ≡ (standing_shape (lent e) e.args.two).columns)
    × ((moved_shape (lent e) e.args.two).columns ≤ wide_bound) × ((standing_shape (lent e) e.args.two).columns ≤ wide_bound)
sides c =
    let e : tie.Start = search in
    let s = c.sides_of-sides.ensures e.args.pixels.now in (
      ap (λ (z : Sides). z.moved_along) s,
      ap (λ (z : Sides). z.standing_along) s,
      moved_small (lent e) e.args.two e.requires Horizontal,
      standing_small (lent e) e.args.two e.requires Horizontal,
    )

overflow_add-sides : tie.Need-overflow_add-sides
overflow_add-sides c = let at-sides-of : tie.After-sides_of-sides = search in let h = sides at-sides-of in omega arith

overflow_add-sides-2 : tie.Need-overflow_add-sides-2
overflow_add-sides-2 c =
    let e : tie.Start = search in
    let at-sides-of : tie.After-sides_of-sides = search in
    let h = sides at-sides-of in
    omega (arith, e.requires.offset)

returns : tie.Need-returns
returns c =
    let e : tie.Start = search in
    let at-sides-of : tie.After-sides_of-sides = search in
    let h = sides at-sides-of in
    c.less.ensures ∙ ap₂ (λ (x y : ℕ). middle + middle + x - (y + e.args.two.offset)) h.0 h.1

pub mirrored_offset_spec : {M : Type 1} → statement M
mirrored_offset_spec = tie.close (tie.spec
    sides_of-sides-requires overflow_add-sides overflow_add-sides-2 (search rules) returns)
