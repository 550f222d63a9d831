pub mod ListLaws
pub mod CallLaws
