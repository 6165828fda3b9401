-- Laws of writing.
pub mod Writing
