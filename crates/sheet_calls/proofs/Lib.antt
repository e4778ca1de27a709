-- The laws behind the sheet's calls; each function's proof stands in a folder of its name.
pub mod Outcomes
