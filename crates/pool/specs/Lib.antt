pub mod Meant
pub mod Pools
