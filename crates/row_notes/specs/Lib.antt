-- `Written` is what callers go by; `Drafts` and `Writer` are how the writer works inside.
pub mod Drafts
pub mod Writer
pub mod Written
pub mod Masks
