-- Laws that the functions of the crate and the crates above rest on.
pub mod Cells
pub mod Jobs
