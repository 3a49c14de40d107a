pub mod Caches
pub mod Orders
pub mod Placed
