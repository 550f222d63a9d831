pub mod SearchLaws
pub mod PropagationLoops
