pub mod RemarkLoops
