-- What the contracts of this crate cite, beside the definitions.
pub mod Reached
