pub mod BlameLaws
pub mod CalmLaws
