pub mod Boundary
pub mod RecorderCall
