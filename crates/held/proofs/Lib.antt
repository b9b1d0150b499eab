pub mod FieldLaws
pub mod Made
