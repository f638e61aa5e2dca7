pub mod Bits
pub mod Ranges
pub mod Chunks
pub mod Stretches
