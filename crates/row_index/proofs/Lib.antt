pub mod IndexLoops
