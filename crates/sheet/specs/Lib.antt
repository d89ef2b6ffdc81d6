pub mod Sheet
pub mod SheetTests
pub mod SheetClauses
pub mod TestLaws
