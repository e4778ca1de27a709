-- Laws of the first pair that conflicts and of refusals.
pub mod FirstPair
pub mod Checks
