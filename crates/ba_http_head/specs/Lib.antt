pub mod HeadLines
pub mod Heads
pub mod Lengths
pub mod Looks
pub mod inside
