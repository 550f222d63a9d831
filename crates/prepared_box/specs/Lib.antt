pub mod TakenBox
