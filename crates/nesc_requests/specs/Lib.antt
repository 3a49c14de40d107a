pub mod Buffers
pub mod Machine
pub mod Requests
pub mod Script
