-- Laws that the proofs of this crate cite.
pub mod Short
pub mod Taken
pub mod Printing
pub mod Running
pub mod Front
