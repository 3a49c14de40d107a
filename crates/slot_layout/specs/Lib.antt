pub mod Bytes
pub mod Gate
pub mod Slots
pub mod Targets
pub mod Whole
