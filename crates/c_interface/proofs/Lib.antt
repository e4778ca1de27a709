-- The laws behind the calls as C sees them; each function's proof stands in a folder of its name.
pub mod Mapped
pub mod Entries
pub mod Records
