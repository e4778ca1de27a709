-- Laws of the shared-pixel test, depths, the penalty and no-fit rows and columns (document 01, 'No-fit rows and penalty').
-- Demand2Overlap has the claim.
pub mod Share
pub mod Depth
pub mod Grown
pub mod Apart
pub mod Whole
pub mod NoFit
pub mod PixelDepth
pub mod Penalty
pub mod Largest
pub mod Demand2Overlap
pub mod GrownTurns
