pub mod Clauses
pub mod ViewLaws
