-- What the exported calls' contracts cite beside the model's definitions.
pub mod Numbers
pub mod Records
pub mod Replies
