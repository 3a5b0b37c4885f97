pub mod Adjacent
pub mod Firsts
pub mod LegalTexts
pub mod SameTrees
pub mod SpaceLaws
pub mod TreeLaws
pub mod TreeLimits
pub mod TreeRules
