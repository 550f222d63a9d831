pub mod CheckedLaws
pub mod InputLaws
pub mod OutputLaws
