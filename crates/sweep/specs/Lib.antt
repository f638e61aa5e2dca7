pub mod Held
pub mod Swept
