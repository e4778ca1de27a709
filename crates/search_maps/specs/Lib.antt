-- The map of two pieces.
pub mod Map
pub mod Making
