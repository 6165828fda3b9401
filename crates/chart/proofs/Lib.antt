-- Laws of the main call.
pub mod Answering
