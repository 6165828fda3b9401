-- What the contracts of this crate cite, beside the definitions.
pub mod Fields
pub mod Chunks
pub mod Limits
