pub mod Fronts
pub mod SoundWords
