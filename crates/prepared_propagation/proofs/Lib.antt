pub mod PassLaws
pub mod PassesLaws
pub mod SearchLaws
