-- Laws of the call.
pub mod Calls
