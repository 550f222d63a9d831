pub mod FieldLaws
pub mod LineLaws
pub mod PrintLaws
pub mod PageLaws
pub mod ReadingLaws
pub mod Floor
pub mod WorkedPages
pub mod WritingLaws
