-- Laws that the functions of the crate rest on.
pub mod Cutting
pub mod Outcomes
