pub mod BlocksLemmas
pub mod Causes
pub mod Differing
pub mod DiskCalls
pub mod Periods
pub mod Maps
pub mod Numbered
