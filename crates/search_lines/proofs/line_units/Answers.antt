-- `search_lines::line_units`: a side of the standing piece is at most the longer one, and no side is above 263.
use Rattle.list_laws.proofs.Kit.{◌≡◌, ap, ◌≤◌, arith}
use Rattle.model.specs.Lent.{Lent, lent_by}
use Rattle.model.specs.declared.Direction.TheVariants.{Horizontal, Vertical}
use Rattle.model.specs.Piece.{extent}
use Rattle.overlap_laws.specs.Grown.{wide_bound}
use Rattle.search_maps.specs.Map.{sides_of}
use Rattle.search_maps.specs.declared.Sides.{Sides}
use Rattle.search_lines.specs.declared.Two.{Two}
use Rattle.search_lines.specs.Making.{moved_shape, standing_shape}
use Rattle.search_lines.specs.Sources.{Named}
use Rattle.search_lines.proofs.Sourcing.{named_entries, moved_small, standing_small}
use Rattle.search_lines.proofs.line_units.Goals as goal

-- the sides are the two pieces', and small
record SidesKnown (l : Lent) (two : Two) (z : Sides) : Type 0 where
  along : z.moved_along ≡ extent Horizontal (moved_shape l two)
  across : z.moved_across ≡ extent Vertical (moved_shape l two)
  columns : z.standing_along ≡ extent Horizontal (standing_shape l two)
  rows : z.standing_across ≡ extent Vertical (standing_shape l two)
  along-small : extent Horizontal (moved_shape l two) ≤ wide_bound
  across-small : extent Vertical (moved_shape l two) ≤ wide_bound
  columns-small : extent Horizontal (standing_shape l two) ≤ wide_bound
  rows-small : extent Vertical (standing_shape l two) ≤ wide_bound

known : (l : Lent) (two : Two) (z : Sides) → Named l two → z ≡ sides_of Horizontal (moved_shape l two) (standing_shape l two) → SidesKnown l two z
known l two z named s =
    record {
      along = ap (λ (y : Sides). y.moved_along) s;
      across = ap (λ (y : Sides). y.moved_across) s;
      columns = ap (λ (y : Sides). y.standing_along) s;
      rows = ap (λ (y : Sides). y.standing_across) s;
      along-small = moved_small l two named Horizontal;
      across-small = moved_small l two named Vertical;
      columns-small = standing_small l two named Horizontal;
      rows-small = standing_small l two named Vertical;
    }

pub sides_of-sides-requires : goal.sides_of-sides-requires
sides_of-sides-requires c = named_entries (lent_by c.args.size c.args.table.now c.args.pixels.now) c.args.two c.requires

pub overflow_add-sides : goal.overflow_add-sides
overflow_add-sides c = let k = known _ _ _ c.requires (c.sides_of-sides.ensures c.args.pixels.now) in omega arith

pub units_for-requires : goal.units_for-requires
units_for-requires c = let k = known _ _ _ c.requires (c.sides_of-sides.ensures c.args.pixels.now) in omega arith

pub overflow_add-sides-in-Vertical : goal.overflow_add-sides-in-Vertical
overflow_add-sides-in-Vertical c = let k = known _ _ _ c.requires (c.sides_of-sides.ensures c.args.pixels.now) in omega arith

pub units_for-requires-in-Vertical : goal.units_for-requires-in-Vertical
units_for-requires-in-Vertical c = let k = known _ _ _ c.requires (c.sides_of-sides.ensures c.args.pixels.now) in omega arith

-- no side of the standing piece is above the longer one
pub returns-in-Horizontal : goal.returns-in-Horizontal
returns-in-Horizontal c =
    let k = known _ _ _ c.requires (c.sides_of-sides.ensures c.args.pixels.now) in
    rw c.in-Horizontal.is (record { some = omega arith; enough = omega arith; few = omega arith })

pub returns-in-Vertical : goal.returns-in-Vertical
returns-in-Vertical c =
    let k = known _ _ _ c.requires (c.sides_of-sides.ensures c.args.pixels.now) in
    rw c.in-Vertical.is (record { some = omega arith; enough = omega arith; few = omega arith })
