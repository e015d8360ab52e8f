pub mod Listing
pub mod Marking
