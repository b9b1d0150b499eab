pub mod CoverLaws
pub mod Lowering
