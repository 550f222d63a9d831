pub mod Replies
pub mod CliqueReplies
pub mod PageReplies
