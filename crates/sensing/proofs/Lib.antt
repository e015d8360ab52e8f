pub mod Said
pub mod Same
pub mod Examine
