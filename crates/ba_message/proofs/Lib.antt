pub mod Dialed
pub mod FitTests
pub mod OwnEndpoints
pub mod PlainTexts
