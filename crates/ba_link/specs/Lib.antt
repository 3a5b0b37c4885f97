pub mod Fits
pub mod Link
pub mod Outcomes
pub mod Pairs
pub mod States
