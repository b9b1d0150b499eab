pub mod Cases
pub mod CallLaws
mod IndexLaws
pub mod BuildLaws
