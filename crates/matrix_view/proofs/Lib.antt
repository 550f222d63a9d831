pub mod RowInLaws
