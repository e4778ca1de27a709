-- What the contracts of this crate cite beside the model's definitions.
pub mod Asked
pub mod Locked
