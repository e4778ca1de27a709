-- Laws of loops over sums.
pub mod Scans
