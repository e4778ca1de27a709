-- Laws of the marks of a no-fit line.
pub mod Words
pub mod Covering
pub mod Kept
pub mod Marked
