-- Laws of `zeroed`.
pub mod Zeroed
