pub mod Scripts
pub mod Printer
pub mod inside
