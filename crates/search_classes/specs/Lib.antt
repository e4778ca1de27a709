-- Equal pieces of a job.
pub mod Classes
