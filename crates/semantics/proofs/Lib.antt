pub mod WorkedBooks
pub mod Corners
