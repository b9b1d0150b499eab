pub mod Level
pub mod Readable
pub mod Rows
