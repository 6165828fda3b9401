-- What follows from the main theorems alone: the laws of specs/Consequences.antt.
pub mod Places
pub mod Measures
pub mod LaterNotes
pub mod Filters
pub mod EarlierNotes
pub mod LastBeat
pub mod Records
pub mod Blocks
pub mod Dropped
pub mod Tallies
pub mod Flags
pub mod Beats
pub mod Minimising
pub mod Examples
pub mod Written
pub mod Presses
