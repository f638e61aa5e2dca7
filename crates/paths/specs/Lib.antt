pub mod Paths
pub mod Combining
pub mod Sweep
pub mod Totals
pub mod Increments
