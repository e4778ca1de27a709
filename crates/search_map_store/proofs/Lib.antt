-- Laws of kept maps.
pub mod Keeping
