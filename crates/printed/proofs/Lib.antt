pub mod Laid
pub mod Adding
pub mod Summing
pub mod Choosing
pub mod Entries
pub mod Gathering
pub mod Strips
