pub mod RoundLaws
pub mod SpentLaws
pub mod RoundRestLaws
pub mod NoLimit
pub mod RestLaws
pub mod RoundsLaws
pub mod RoundsAnswers
