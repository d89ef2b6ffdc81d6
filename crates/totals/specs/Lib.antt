pub mod Totals
pub mod Mass
