pub mod Same
pub mod Bytes
pub mod Demand
