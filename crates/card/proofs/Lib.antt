-- Laws that the card's proofs cite.
pub mod Sheet
