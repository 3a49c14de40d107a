pub mod Bits
pub mod Map
pub mod Runs
pub mod Sound
