pub mod Clearing
pub mod NewImage
pub mod Stages
pub mod Zeros
