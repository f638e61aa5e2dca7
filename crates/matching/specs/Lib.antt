pub mod Counts
pub mod Column
pub mod Words
pub mod Printed
