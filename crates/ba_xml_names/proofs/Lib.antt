pub mod Nearest
pub mod OpeningRules
pub mod Openings
pub mod Rows
