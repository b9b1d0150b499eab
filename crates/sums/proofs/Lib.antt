pub mod EdgeLaws
pub mod ModelLaws
pub mod TableLaws
pub mod NodeLaws
