pub mod Entries
pub mod Lists
pub mod Flags
pub mod Comparing
pub mod Reading
pub mod Looking
pub mod Widening
