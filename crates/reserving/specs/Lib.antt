pub mod Needs
pub mod Lifts
