pub mod Asks
pub mod Fetches
pub mod HeadParts
