pub mod Cells
pub mod EndRows
pub mod Messages
pub mod Numbers
pub mod PartRows
pub mod Texts
pub mod Words
pub mod formers
