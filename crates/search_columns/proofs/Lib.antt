-- Laws of distances down a column.
pub mod Gaps
pub mod Counts
