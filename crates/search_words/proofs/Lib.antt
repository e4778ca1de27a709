-- Laws of strings moved up.
pub mod Moved
pub mod Flats
pub mod Growth
