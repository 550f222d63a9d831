pub mod OpenCallLaws
pub mod OpenAnswers
pub mod PromiseLaws
