-- Known dates as facts about the definitions; the folders beside it prove the functions.
pub mod Examples
pub mod Periods
