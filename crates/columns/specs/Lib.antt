-- Columns of a line and the numbers in them: definitions, and the laws that other crates cite.
pub mod Bytes
pub mod Columns
pub mod Number
pub mod Written
pub mod Rewritten
pub mod Format
pub mod Worth
pub mod Picture
