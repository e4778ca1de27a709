-- Laws of pushes that follow one another.
pub mod Pushing
pub mod Resting
