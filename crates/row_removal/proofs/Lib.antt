pub mod ClearLoops
