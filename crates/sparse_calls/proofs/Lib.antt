pub mod SparseCallLaws
pub mod ConversionLaws
