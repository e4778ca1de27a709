-- The words of demand 2's theorems of strips and turns; what they say of the model's definitions is proved in proofs/.
pub mod Lists
pub mod Boxes
pub mod Turns
pub mod Strips
