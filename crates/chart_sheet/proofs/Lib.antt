-- Laws that this crate's proofs cite.
pub mod Lengths
pub mod Fits
pub mod Counts
pub mod CardRoom
pub mod PrintRoom
pub mod JsonRoom
pub mod Lines
pub mod Answering
pub mod Writing
