-- Laws of strips added to marks.
pub mod Adding
pub mod Sums
