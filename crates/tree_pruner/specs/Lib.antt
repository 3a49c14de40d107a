pub mod Dropping
pub mod Finding
pub mod Parts
pub mod Pruning
pub mod Reclaiming
pub mod Roots
