-- Laws of the walk along records and trace.
pub mod Read
pub mod Records
pub mod Orders
pub mod Walk
pub mod Counts
pub mod Looking
pub mod Places
