pub mod Parts
pub mod Tests
pub mod DivisionLaws
pub mod RangeLaws
pub mod IndexLaws
pub mod Reading
