pub mod Exports
pub mod CliqueExports
pub mod SparseExports
pub mod PageExports
