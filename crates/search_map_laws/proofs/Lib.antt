-- Laws of the maps of a job's pieces.
pub mod Grown
pub mod Pieces
pub mod Keys
pub mod Quarters
