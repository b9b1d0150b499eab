pub mod Decided
pub mod Chances
pub mod Limits
pub mod LayoutLaws
pub mod ViewLaws
