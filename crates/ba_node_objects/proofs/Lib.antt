pub mod Applied
pub mod Counted
pub mod Found
pub mod Shows
pub mod Spotted
