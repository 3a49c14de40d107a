pub mod CountLemmas
pub mod EntryLemmas
pub mod FitLemmas
pub mod GuestLemmas
pub mod LeftLemmas
pub mod ReadsLemmas
mod Rows
pub mod ScriptLemmas
pub mod StepLemmas
pub mod StoreLemmas
pub mod WordLemmas
