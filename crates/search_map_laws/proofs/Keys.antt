-- A key tells its two pieces in their turns. Assumes nothing.
use Rattle.list_laws.proofs.Kit.{◌∙◌, ◌≡◌, ap, ◌/◌, ◌%◌, ◌<◌, ℕ, arith}
use Rattle.model.specs.Layout.{Job, turned_piece}
use Rattle.model.specs.Lent.{piece_bound}
use Rattle.model.specs.declared.Turn.{Turn}
use Rattle.search_shapes.specs.Shapes.{shape_number, numbered_shape}
use Rattle.search_shapes.proofs.Numbers.{number_back, turn_below}
use Rattle.search_map_laws.specs.Keys.{map_key, first_of, standing_of}

module _ (j : Job) (i : ℕ) (t : Turn) (k : ℕ) (u : Turn) (hi : i < piece_bound) (hk : k < piece_bound) where
  -- the key of two pieces in their turns
  abbrev key : ℕ
  key = map_key (shape_number i t) (shape_number k u)

  -- its moved piece
  pub first_back_lem : first_of j key ≡ turned_piece j i t
  first_back_lem =
      let a = turn_below t in
      let b = turn_below u in
      let e : key / 256 ≡ shape_number i t = omega arith in
      ap (numbered_shape j) e ∙ number_back j i t

  -- and its standing one
  pub standing_back : standing_of j key ≡ turned_piece j k u
  standing_back =
      let b = turn_below u in
      let e : key % 256 ≡ shape_number k u = omega arith in
      ap (numbered_shape j) e ∙ number_back j k u

  -- it is small
  pub key_small : key < 65536
  key_small = let a = turn_below t in let b = turn_below u in omega arith
