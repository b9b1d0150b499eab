pub mod NodeLaws
pub mod Walk
pub mod BroodLaws
pub mod Expanded
