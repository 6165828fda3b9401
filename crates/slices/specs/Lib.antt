-- What the contracts of the filling functions cite.
pub mod Zeroed
