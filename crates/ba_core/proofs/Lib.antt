pub mod Decimals
pub mod Dots
