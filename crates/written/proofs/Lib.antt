-- Laws of the writer, by topic.
pub mod Parts
pub mod Held
pub mod Sizes
pub mod Apart
pub mod Counts
pub mod Walk
pub mod Bare
pub mod Making
pub mod Texts
pub mod Placing
pub mod Putting
pub mod Answer
