pub mod Fixpoint
pub mod Points
pub mod Convergence
