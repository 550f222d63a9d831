pub mod AnswerLaws
pub mod CallLaws
pub mod CoreLaws
pub mod MixedLaws
