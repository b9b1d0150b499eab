pub mod Lowest
pub mod Settling
pub mod Opening
pub mod NextLaws
