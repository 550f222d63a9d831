pub mod KindLaws
pub mod FieldLaws
pub mod OutcomeLaws
