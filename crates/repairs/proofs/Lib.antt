pub mod Marking
pub mod Linked
pub mod Rereading
pub mod Answering
pub mod Searching
