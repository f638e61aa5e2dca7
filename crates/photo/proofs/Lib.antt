pub mod Runs
pub mod Scans
pub mod Exact
pub mod Padding
