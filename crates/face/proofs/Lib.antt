pub mod Exact
pub mod Columns
