-- The laws behind the list; each function's proof stands in a folder of its name.
pub mod Owned
pub mod Listed
