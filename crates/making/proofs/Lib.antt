pub mod Marks
pub mod Moving
pub mod Lowest
pub mod Becoming
pub mod Tracking
pub mod Expanding
