-- Laws of stretches.
pub mod Stretching
