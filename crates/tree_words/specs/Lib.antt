pub mod Changed
pub mod Laws
pub mod Pools
pub mod Shown
