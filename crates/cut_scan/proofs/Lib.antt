-- The laws behind the scan; each function's proof stands in a folder of its name.
pub mod Storing
pub mod Rows
