-- What the contracts of this crate say of rows in a text.
pub mod Rows
pub mod States
