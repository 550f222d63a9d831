pub mod ExportLaws
pub mod BookLaws
pub mod TieLaws
pub mod ClassLaws
pub mod CliqueLaws
