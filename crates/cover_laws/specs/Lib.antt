-- The words of demand 2's theorems of the cover counts; they are proved in proofs/.
pub mod CoverClaims
pub mod Effects
