pub mod SideLaws
pub mod MarkedLaws
