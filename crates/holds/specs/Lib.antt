-- What the contracts of the hold tracker cite, beside the definitions.
pub mod Stacks
pub mod Tracks
