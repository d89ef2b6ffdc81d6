pub mod Recording
pub mod Promise
pub mod Parts
