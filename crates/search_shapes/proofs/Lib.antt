-- Laws of a lent job's numbers, of the shapes' numbers and of the store while it is filled.
pub mod Jobs
pub mod Numbers
pub mod Making
pub mod Rooms
