pub mod Judged
pub mod Behind
pub mod JudgedPromise
