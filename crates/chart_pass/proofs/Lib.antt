-- Laws of the pass: the measures that were walked over.
pub mod Charting
