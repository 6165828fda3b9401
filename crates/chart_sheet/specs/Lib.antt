-- The forms of a chart's sheet, and the call that writes one.
pub mod Forms
pub mod Entry
