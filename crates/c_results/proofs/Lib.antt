-- The laws behind the numbers that are handed over.
pub mod Runs
