pub mod PackedLaws
pub mod TermLaws
