-- Laws of kept lines: where a placed piece reads its line, how a line is made, and how the store stays right.
pub mod Placed
pub mod Parts
pub mod Making
pub mod Exchanging
pub mod Sourcing
pub mod Keeping
