-- What the contracts of this crate cite beside the model's definitions.
pub mod Ready
pub mod Reading
