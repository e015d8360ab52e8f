pub mod Bounds
pub mod Means
pub mod Sums
