pub mod Grown
pub mod Carry
pub mod Steps
pub mod Moving
