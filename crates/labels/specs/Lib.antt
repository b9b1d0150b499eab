pub mod Agree
pub mod Values
