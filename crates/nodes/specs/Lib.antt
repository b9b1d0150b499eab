pub mod Born
pub mod Told
