-- Laws of the recount, by topic.
pub mod Zeros
pub mod Few
pub mod Corrected
