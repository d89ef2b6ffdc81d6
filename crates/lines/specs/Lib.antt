pub mod Lines
pub mod LineFaults
pub mod Beginning
pub mod RightLine
pub mod Clauses
pub mod Pictured
pub mod FaultLaws
