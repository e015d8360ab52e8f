pub mod Entries
pub mod Lists
pub mod Lifts
pub mod Made
pub mod Chosen
pub mod Marks
pub mod Orders
