-- Laws that the proofs of this crate's functions cite.
pub mod Insertion
pub mod Free
pub mod Stacks
