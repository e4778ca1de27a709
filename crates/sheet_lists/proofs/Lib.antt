-- The laws behind a list of calls.
pub mod CallLists
pub mod ExportedCover
