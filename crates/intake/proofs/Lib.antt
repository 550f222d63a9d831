pub mod InputLaws
pub mod CheckLaws
