-- What a lent job that passes its check gives (document 01, 'When a call says no', number 8). Checked has the one record of it.
pub mod Ranges
pub mod Starts
pub mod Turned
pub mod Checked
pub mod Locks
