pub mod TieAnswers
