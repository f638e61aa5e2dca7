pub mod Exact
pub mod Lawful
