pub mod Filling
pub mod Years
pub mod RecorderCall
pub mod BoundaryLaws
pub mod CallExamples
pub mod RecorderExamples
