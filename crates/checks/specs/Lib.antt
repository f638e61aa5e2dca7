pub mod Noise
pub mod Told
