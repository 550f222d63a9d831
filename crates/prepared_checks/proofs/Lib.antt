pub mod CheckLaws
pub mod ProbeCheckLaws
