pub mod RootLaws
pub mod Alone
