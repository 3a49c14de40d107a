pub mod Buffers
pub mod Opening
pub mod Requests
pub mod Resting
pub mod Serving
pub mod Stepping
