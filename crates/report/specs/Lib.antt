pub mod Room
pub mod Report
