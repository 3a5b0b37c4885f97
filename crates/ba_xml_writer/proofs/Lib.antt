pub mod Escaping
pub mod Prefixes
pub mod Children
pub mod Collecting
pub mod Numbers
pub mod Resolved
