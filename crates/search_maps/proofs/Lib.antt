-- Laws of map making.
pub mod Fitting
pub mod Marking
pub mod Pointing
pub mod Shared
pub mod Turning
