pub mod MarkedRowLaws
pub mod LocalBox
pub mod LocalIndex
