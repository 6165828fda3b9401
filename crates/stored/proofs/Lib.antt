-- Parts that are read one after the other.
pub mod Joined
