-- What the exported calls' contracts cite beside the definitions below.
pub mod Places
