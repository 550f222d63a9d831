pub mod SparseBook
pub mod SparseChecks
pub mod SparseTrips
pub mod SparseCases
