pub mod Bounded
pub mod Formed
pub mod Settled
