pub mod Beginnings
pub mod Borders
pub mod Leaves
pub mod Paths
pub mod Spaced
pub mod Spans
