-- The laws behind the calls; each function's proof stands in a folder of its name.
pub mod Steps
