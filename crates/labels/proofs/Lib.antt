pub mod Fields
pub mod RuleLaws
pub mod ValueLaws
