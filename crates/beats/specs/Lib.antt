-- What the contracts of this crate say beside the definitions, and results of the Rust.
pub mod Places
pub mod Upto
pub mod Vectors
pub mod Even
pub mod RowBeats
