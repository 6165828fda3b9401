-- What the contracts of a column, of a cell and of a row's walk cite, beside the definitions.
pub mod Columns
pub mod Cells
pub mod Rows
