pub mod RangeLaws
pub mod RowLaws
mod FillLaws
mod ProductLaws
