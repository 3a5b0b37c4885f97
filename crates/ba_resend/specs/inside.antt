pub mod Rows
pub mod Tournaments
