pub mod Header
pub mod Verdict
pub mod Pixels
pub mod Laid
