-- What contracts cite of a checked job beside the model's definitions.
pub mod Entries
