pub mod Changes
pub mod Counts
pub mod Kept
pub mod Lists
pub mod NoTrees
