pub mod Entries
pub mod Laws
pub mod Rules
pub mod Words
