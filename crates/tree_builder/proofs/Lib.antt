pub mod Beginning
pub mod Filling
pub mod Going
pub mod Growing
pub mod Making
pub mod Needing
