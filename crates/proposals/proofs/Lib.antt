pub mod VerdictLaws
pub mod TellingLaws
pub mod HeldLaws
pub mod CallLaws
pub mod Corners
