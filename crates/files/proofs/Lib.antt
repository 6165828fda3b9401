-- Laws that the proofs of the file readers cite.
pub mod Words
pub mod Fields
pub mod Tags
pub mod Blocks
pub mod Rest
pub mod RestInOrder
pub mod Charts
