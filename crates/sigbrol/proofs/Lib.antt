-- The laws behind the exported calls; each function's proof stands in a folder of its name.
pub mod Told
pub mod Claimed
pub mod Stretches
pub mod Sheets
