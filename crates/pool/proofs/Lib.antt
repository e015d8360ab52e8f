pub mod Kept
pub mod Made
