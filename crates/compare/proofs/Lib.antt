-- The laws that the comparisons' proofs go by.
pub mod Comparing
pub mod Reading
