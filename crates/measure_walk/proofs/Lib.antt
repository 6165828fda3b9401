-- Laws of the walk.
pub mod Walks
pub mod Runs
pub mod Starts
