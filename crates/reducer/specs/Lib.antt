pub mod OpenCalls
