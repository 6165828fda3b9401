-- Laws of the kept-row call.
pub mod Answering
