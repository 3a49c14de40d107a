pub mod Apart
pub mod Listed
pub mod Nodes
pub mod Ruled
