pub mod Lengths
pub mod PlanChecks
pub mod Answers
pub mod Meaning
