pub mod Recorded
pub mod Refusals
pub mod OnePass
pub mod Writable
pub mod Written
pub mod HourLines
pub mod WriterClauses
pub mod Table
