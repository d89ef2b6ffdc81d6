pub mod Hour
pub mod Formulas
pub mod Reduced
