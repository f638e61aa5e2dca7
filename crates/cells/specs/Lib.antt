pub mod Blank
pub mod Lattice
pub mod Layout
pub mod Line
