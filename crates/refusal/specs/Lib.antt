pub mod Told
pub mod First
