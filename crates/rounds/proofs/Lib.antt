pub mod RoundLaws
pub mod NodeLaws
pub mod CoverLaws
pub mod FigureLaws
pub mod RowLaws
