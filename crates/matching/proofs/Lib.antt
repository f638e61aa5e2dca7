pub mod Sums
pub mod Column
pub mod Rows
pub mod Ranges
pub mod Words
pub mod Lawful
