-- The statements of the examples.
pub mod Examples
pub mod Fits
