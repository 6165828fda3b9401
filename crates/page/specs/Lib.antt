-- Texts that are printed, and what printing on a page promises.
pub mod Texts
pub mod Prints
