pub mod Fields
pub mod Verdict
pub mod Meaning
pub mod Laid
