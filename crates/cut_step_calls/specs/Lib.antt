-- The answers of the crate's calls.
pub mod Answers
