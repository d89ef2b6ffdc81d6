pub mod Equations
pub mod FormulaLaws
pub mod ReducedLaws
pub mod WorkedRows
