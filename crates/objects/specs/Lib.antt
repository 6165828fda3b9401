-- What the contracts of the object rows cite, beside the definitions.
pub mod Rows
pub mod LastHeld
pub mod Columns
