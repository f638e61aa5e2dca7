pub mod Numbers
pub mod Bits
pub mod Ranges
pub mod Absent
