pub mod Checked
pub mod Judging
pub mod Promise
pub mod Idle
pub mod Table
