pub mod Building
pub mod Ways
