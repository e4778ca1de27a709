-- Laws of the test of an entry and of counts made anew.
pub mod Entries
pub mod Recounts
