pub mod Stated
pub mod Needed
pub mod Read
