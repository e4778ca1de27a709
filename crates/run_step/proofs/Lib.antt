-- Laws of a layout buffer with one entry written anew, of what is at hand before and after a trial, and of where a descent stands after it.
pub mod Moves
pub mod Readies
pub mod Stands
