-- Laws that the functions of the crate rest on.
pub mod Scanning
pub mod Counts
pub mod Appending
pub mod Jobs
pub mod Comparing
