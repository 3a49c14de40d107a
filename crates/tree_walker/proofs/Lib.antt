pub mod OneWay
pub mod Walks
