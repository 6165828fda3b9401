-- What the contracts of the stored sample's reader cite, beside the definitions.
pub mod Layout
pub mod Lent
