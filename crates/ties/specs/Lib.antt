pub mod Ties
pub mod TiedRow
pub mod TieCall
pub mod TiedRun
pub mod TiedRuns
pub mod TieMeans
pub mod TieRefusals
pub mod TieBooks
