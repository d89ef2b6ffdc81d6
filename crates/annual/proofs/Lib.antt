pub mod Tests
pub mod AlwaysLaws
pub mod Examples
pub mod JoinedLaws
pub mod YearLaws
pub mod NearLaws
