pub mod ProbeAnswers
