pub mod Working
pub mod Root
