-- Laws that the functions' proofs cite: of floats by the fractions that they equal, then of the row beat and the last beat. Callers cite Beats
-- and Placed. The claims on how near the beats are stand in Texts.
mod Numbers
mod Values
mod Step
mod Sticky
mod Row
mod Upto
mod Last
pub mod Beats
pub mod Placed
pub mod LastRows
pub mod Scaled
mod Rounding
mod Near
mod Exact48
mod Nearest48
mod TextPlaces
pub mod Texts
