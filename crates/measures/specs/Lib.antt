-- What the contracts of this crate cite, beside the definitions.
pub mod Forms
pub mod Lines
pub mod Reading
