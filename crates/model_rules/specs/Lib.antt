pub mod Few
pub mod Bodies
