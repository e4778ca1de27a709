-- What the answer of a preview says.
pub mod Answered
