pub mod Attachments
pub mod Carrying
pub mod Needing
pub mod Telling
