-- Specification, Writing a chart: the laws of specs/WrittenBack.antt.
pub mod Same
pub mod Text
pub mod Notes
pub mod Back
pub mod Passes
pub mod Records
pub mod Reads
pub mod Only
pub mod Exactly
pub mod AsAsked
