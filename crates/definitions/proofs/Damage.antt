-- Specification, Damage: damage in one measure stays there, `Stays.damage-stays`.
pub mod Bytes
pub mod But
pub mod Notes
pub mod Objects
pub mod Stays
pub mod Example
pub mod Made
pub mod Dropped
