pub mod DecodeLaws
pub mod KeepsLaws
pub mod KeptLaws
pub mod MeaningLaws
pub mod OursLaws
pub mod ProbeMeaningLaws
pub mod ReasonsLaws
pub mod RowReasonLaws
