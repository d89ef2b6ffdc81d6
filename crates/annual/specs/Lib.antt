pub mod Joined
pub mod Year
