pub mod Starts
pub mod Held
