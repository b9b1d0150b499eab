pub mod Here
pub mod Answers
pub mod Walk
