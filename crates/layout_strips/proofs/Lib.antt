-- What is kept of a layout's strips.
pub mod Measured
pub mod Keeping
