-- Laws of trials as numbers and of the list of them while it grows.
pub mod Listing
