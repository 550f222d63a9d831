pub mod ImplicationLoops
pub mod JoinLaws
