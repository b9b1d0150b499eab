pub mod Right
pub mod Row
