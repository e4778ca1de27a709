-- Laws that the functions of the crate rest on.
pub mod Outcomes
pub mod Again
