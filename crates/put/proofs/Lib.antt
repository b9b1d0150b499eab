pub mod PutLaws
pub mod ChangeLaws
pub mod Casts
