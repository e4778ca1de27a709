-- Stretches of bytes in one store.
pub mod Store
