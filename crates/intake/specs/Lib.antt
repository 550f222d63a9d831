pub mod Intake
pub mod Checks
