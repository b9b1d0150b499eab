pub mod Wants
pub mod Standing
