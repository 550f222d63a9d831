pub mod Output
pub mod Answers
pub mod Meaning
