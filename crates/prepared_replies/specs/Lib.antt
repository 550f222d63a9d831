pub mod PreparedReplies
