pub mod Characters
pub mod Lengths
pub mod Names
pub mod Namespaces
pub mod Same
pub mod Spaces
pub mod Trees
