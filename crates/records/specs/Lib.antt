pub mod Records
pub mod Room
pub mod RecordLaws
