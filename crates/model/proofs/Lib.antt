pub mod BitTests
pub mod BoxLaws
pub mod BoxLoops
pub mod CheckLaws
pub mod RefusalLaws
pub mod PlaceLaws
pub mod PointLaws
pub mod RowsLaws
