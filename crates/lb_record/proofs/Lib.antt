pub mod Bytes
pub mod Cut
pub mod Spelled
pub mod Empty
pub mod Worked
