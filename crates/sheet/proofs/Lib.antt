pub mod Words
pub mod SheetClauseLaws
pub mod SheetLaws
pub mod TestLaws
pub mod WordLaws
