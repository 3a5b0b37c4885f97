pub mod DiskLaws
pub mod MediumFits
