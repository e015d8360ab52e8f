pub mod Walked
pub mod Lifting
pub mod Levelled
