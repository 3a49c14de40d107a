pub mod Lists
pub mod Translating
