pub mod Round
pub mod Phase
pub mod RoundRest
pub mod Rounds
pub mod Answers
pub mod NoLimit
pub mod Rest
