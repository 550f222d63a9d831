pub mod CliqueLaws
pub mod CliqueRows
pub mod FilledLaws
pub mod CliqueRefusals
pub mod CliqueBooks
