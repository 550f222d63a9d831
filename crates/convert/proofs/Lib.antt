pub mod CheckedLaws
pub mod ConvertLaws
pub mod TripLaws
