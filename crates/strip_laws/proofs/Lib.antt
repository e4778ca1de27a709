-- Laws of runs, turns and strips (document 01, 'Sheet and panels' and 'Strips').
pub mod Lists
pub mod Runs
pub mod Boxes
pub mod Tight
pub mod Turns
pub mod Strips
pub mod Halves
pub mod Rebuild
pub mod ValidStrips
pub mod Demand2Strips
