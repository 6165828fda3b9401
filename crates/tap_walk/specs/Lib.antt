-- What the contracts of ordinary rows, and of what each row changes, cite beside the definitions.
pub mod Noted
pub mod Held
pub mod Walked
