-- What the line reader's contracts cite beside the definitions.
pub mod Search
pub mod Lines
pub mod Words
