pub mod PoolLaws
pub mod Sounding
pub mod WordLaws
