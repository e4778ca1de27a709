-- What the crate's own functions find, as document 01's definitions have it.
pub mod Boxes
