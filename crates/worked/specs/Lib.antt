pub mod Calendars
pub mod Rivs
pub mod Scenes
pub mod Examples
