-- Laws of the pass: the measures that were counted, and what the calls over them answer.
pub mod Keeping
pub mod Answering
