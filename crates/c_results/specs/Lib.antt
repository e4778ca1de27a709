-- What the exported calls' contracts cite of the numbers that are handed over.
pub mod Runs
pub mod Steps
