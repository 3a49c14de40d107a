pub mod Groves
pub mod LeavesGone
pub mod Nodes
pub mod Parts
pub mod Turns
pub mod Underway
pub mod WaysDown
pub mod WholeTrees
