pub mod AnswerLaws
pub mod CheckedLaws
pub mod SheetLaws
