pub mod Forests
pub mod Planted
pub mod Putting
