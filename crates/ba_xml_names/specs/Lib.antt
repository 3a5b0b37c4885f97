pub mod inside
pub mod Namespaces
pub mod Resolution
