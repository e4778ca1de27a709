-- The law behind the steps; each function's proof stands in a folder of its name.
pub mod Numbered
