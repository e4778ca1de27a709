-- The laws behind the check of strips; each function's proof stands in a folder of its name.
pub mod Reading
pub mod Validity
pub mod Edges
