-- The words in which the theorems of the cut list speak (document 02, point 2); the theorems are proved in proofs/.
pub mod Lines
pub mod Sides
pub mod Exact
pub mod Owners
