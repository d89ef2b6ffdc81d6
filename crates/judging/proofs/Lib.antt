pub mod BoundLaws
pub mod Examples
pub mod JudgedLaws
pub mod JudgedPromiseLaws
pub mod ShareLaws
pub mod HourLaws
pub mod RowLaws
pub mod TotalsTried
