-- Laws of how many strips there are, of strips in a local store, of what is measured and of pieces that are ready for it.
pub mod Rooms
pub mod Stores
pub mod Amounts
pub mod Readies
