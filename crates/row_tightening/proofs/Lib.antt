pub mod TighteningCases
