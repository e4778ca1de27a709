-- What a store of kept penalty lines holds, and what making one line does.
pub mod Kept
pub mod Making
pub mod Sources
