pub mod Asked
pub mod Slots
pub mod Found
pub mod Searches
pub mod Blinds
pub mod Fits
