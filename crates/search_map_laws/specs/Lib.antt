-- Keys of the maps of a job, two boxes, and turns counted back.
pub mod Keys
pub mod Boxes
pub mod Turns
