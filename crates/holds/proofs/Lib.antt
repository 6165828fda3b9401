-- Laws of the hold tracker, by topic.
pub mod Stacks
pub mod Pairs
pub mod Ends
pub mod Opens
pub mod Heads
pub mod Passed
