-- The card's lines, and what the contracts of this crate cite.
pub mod Sheet
pub mod Card
pub mod ExampleFigures
