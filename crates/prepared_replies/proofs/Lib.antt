pub mod NamedLaws
pub mod ReplyLaws
