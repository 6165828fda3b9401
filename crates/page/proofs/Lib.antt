-- Laws of printing.
pub mod Pages
pub mod Listing
