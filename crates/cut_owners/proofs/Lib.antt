-- The law behind the painting; each function's proof stands in a folder of its name.
pub mod Painting
