-- A store that holds the strips of every job. Assumes nothing.
use Rattle.list_laws.proofs.Kit.{◌≡◌, List, ℕ, arith, length, length-replicate, replicate}
use Rattle.search_shapes.specs.Shapes.{ShapesRoom}

-- a store of 163,840 strips with 257 starts holds the strips of every job
pub room_of_lem : (store : List (List ℕ)) → length store ≡ 163840 → ShapesRoom store (replicate 257 0)
room_of_lem store e = record { wide = omega (arith, e); long = omega (arith, length-replicate {A = ℕ} 257 0) }
