-- Laws of a piece's part, of sums along a line and of a search as a whole.
pub mod Readings
pub mod Summing
pub mod Searching
pub mod Near
