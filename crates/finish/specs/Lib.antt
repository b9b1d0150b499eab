pub mod Finish
pub mod Laid
