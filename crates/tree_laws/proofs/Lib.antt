pub mod Addresses
pub mod Found
pub mod Nodes
pub mod Walks
