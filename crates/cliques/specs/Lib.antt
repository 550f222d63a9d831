pub mod Cliques
pub mod CliqueCall
pub mod CliqueClaims
pub mod CliqueRefusals
pub mod CliqueBooks
