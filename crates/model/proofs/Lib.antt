-- The worked examples of documents 01 and 02 hold of the definitions: each is a test that the checker computes.
pub mod Examples
pub mod Worked
pub mod CutExamples
pub mod TextExamples
pub mod LockExamples
pub mod CompactExamples
