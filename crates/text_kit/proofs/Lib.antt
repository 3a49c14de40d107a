pub mod BlockLemmas
pub mod KnownLemmas
pub mod NumberLemmas
pub mod WritesLemmas
