pub mod Blanks
pub mod Rows
pub mod Views
pub mod Widths
