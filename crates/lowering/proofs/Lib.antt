pub mod NodeLaws
pub mod SweepLaws
pub mod SettledLaws
