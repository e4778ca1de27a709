-- Laws that the proofs of this crate's functions and of its callers cite.
pub mod Steps
