mod Tables
pub mod Some
