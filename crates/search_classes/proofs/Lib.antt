-- Laws of equal pieces.
pub mod Equals
