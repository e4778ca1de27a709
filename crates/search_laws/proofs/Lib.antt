-- The laws that fast sums, line search, descent and guided run rest on, in the shape in which loops use them.
pub mod Pairs
pub mod Rows
pub mod PieceSum
pub mod BoundedSearch
pub mod LineSearch
pub mod Table
pub mod Loop
pub mod GuidedLoop
pub mod Covering
