-- What the contracts of sums, line search, descent and guided run cite beside the model's definitions; the laws of it stand in proofs/.
pub mod Pairs
pub mod PieceSum
pub mod Lines
pub mod Table
pub mod BoundedSearch
pub mod Loop
pub mod Results
pub mod Raising
