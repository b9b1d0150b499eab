pub mod Rounds
pub mod Probing
pub mod Words
mod Fields
mod RowLaws
