-- What reading and writing at a position answers, as document 01's definitions have it.
pub mod Answers
