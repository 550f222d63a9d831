pub mod Compared
pub mod CliqueAnswers
