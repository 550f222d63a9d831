pub mod Book
pub mod BookChecks
pub mod RoundTrips
pub mod Answers
