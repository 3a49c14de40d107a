pub mod Laws
pub mod Opens
pub mod Owners
pub mod Refusal
pub mod Super
pub mod Table
