pub mod Numbers
pub mod There
