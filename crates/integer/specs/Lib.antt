pub mod Order
pub mod Division
pub mod Range
pub mod Index
