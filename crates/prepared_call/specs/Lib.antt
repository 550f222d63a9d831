pub mod Core
pub mod MixedRuns
pub mod PreparedCall
