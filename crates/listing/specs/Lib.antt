pub mod Answer
pub mod Files
pub mod Laid
pub mod Printed
