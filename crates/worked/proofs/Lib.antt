pub mod Calendars
pub mod Rivs
pub mod Yard
pub mod Scenes
