-- What the contracts of this crate cite beside the model's definitions.
pub mod Conflicting
pub mod Answers
