pub mod OutputLaws
pub mod ReductionLaws
pub mod WorkedOutput
