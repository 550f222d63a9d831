pub mod SparseCalls
