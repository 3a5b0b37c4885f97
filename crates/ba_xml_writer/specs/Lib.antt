pub mod Collected
pub mod Escapes
pub mod Namespaces
pub mod OneText
pub mod Resolving
pub mod Writable
