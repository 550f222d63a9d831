pub mod PieceLaws
pub mod ByteLaws
