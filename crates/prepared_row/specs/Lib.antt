pub mod Blaming
pub mod Looking
