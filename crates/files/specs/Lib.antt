-- What the contracts of the file readers cite beside the definitions.
pub mod Tags
pub mod Sm
pub mod Rest
