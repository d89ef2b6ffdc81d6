pub mod Sums
pub mod FitLaws
pub mod MassLaws
pub mod TieExamples
pub mod TotalLaws
