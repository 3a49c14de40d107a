pub mod Groves
pub mod Laws
