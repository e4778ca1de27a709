-- Laws of the line search as a call.
pub mod Answering
