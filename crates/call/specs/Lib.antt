pub mod Calls
pub mod FieldChecks
pub mod Classes
