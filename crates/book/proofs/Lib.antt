pub mod EncodeLaws
pub mod DecodeLaws
pub mod HeadLaws
pub mod AcceptLaws
pub mod RoundTripLaws
pub mod AnswerLaws
