pub mod Meaning
pub mod Nodes
pub mod Window
pub mod WindowLaw
