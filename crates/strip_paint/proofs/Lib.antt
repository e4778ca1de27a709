-- The laws behind painting strips; each function's proof stands in a folder of its name.
pub mod Painting
pub mod Written
