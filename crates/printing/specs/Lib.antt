pub mod Printed
pub mod Room
pub mod PrintedLaws
