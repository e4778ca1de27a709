-- The words of demand 2's theorems of shared pixels, conflicts, depth, penalty and no-fit rows; they are proved in proofs/.
pub mod Grown
pub mod PixelDepth
pub mod Overlap
pub mod NoFit
