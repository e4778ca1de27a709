-- The words in which the theorems of pushing left and down speak (document 02, point 7); the theorems are proved in proofs/.
pub mod Pushed
pub mod Claims
