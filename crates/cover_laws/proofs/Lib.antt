-- The laws of the sheet of cover counts. Demand2Cover has the claim; each file names its section of document 01.
pub mod Calls
pub mod Counts
pub mod Last
pub mod Reached
pub mod Pixels
pub mod Effects
pub mod Locks
pub mod Twice
pub mod Demand2Cover
