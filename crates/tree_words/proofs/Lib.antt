pub mod NoNodes
pub mod NodeWords
pub mod Paths
pub mod Places
pub mod Showing
pub mod Steps
pub mod Trees
