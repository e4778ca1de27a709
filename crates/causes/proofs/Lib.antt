-- Laws that the proofs of this crate and of those above cite.
pub mod Weights
pub mod Asked
pub mod Passed
