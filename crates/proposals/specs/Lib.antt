pub mod Verdict
pub mod Proposals
pub mod Telling
pub mod Holding
pub mod Call
pub mod Meaning
pub mod Corners
