pub mod Joining
pub mod Midway
