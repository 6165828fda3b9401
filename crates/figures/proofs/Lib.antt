-- Laws of the figures, which the sheet's room and the crate `laws` cite.
pub mod Fit
