pub mod Input
pub mod Output
pub mod Meaning
pub mod Judging
