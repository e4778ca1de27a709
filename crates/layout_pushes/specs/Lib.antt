-- What the pieces of a layout need to be pushed.
pub mod Pushable
