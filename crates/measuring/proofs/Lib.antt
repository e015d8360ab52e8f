pub mod Adding
pub mod Hearing
pub mod Made
