-- The laws behind the moves of counts; each function's proof stands in a folder of its name.
pub mod Runs
pub mod Rows
pub mod Pieces
