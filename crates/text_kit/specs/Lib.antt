pub mod Buffered
pub mod Known
pub mod Number
pub mod Writes
