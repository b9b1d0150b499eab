pub mod Products
pub mod Settled
