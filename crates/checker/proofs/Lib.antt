pub mod Pass
pub mod Examples
pub mod IdleLaws
pub mod JudgingLaws
pub mod PromiseLaws
pub mod TableLaws
