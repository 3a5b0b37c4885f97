pub mod Mails
pub mod Worlds
pub mod inside
