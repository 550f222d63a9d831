pub mod SparseReplies
