-- The laws behind the refusals of calls on a sheet; each function's proof stands in a folder of its name.
pub mod Buffers
