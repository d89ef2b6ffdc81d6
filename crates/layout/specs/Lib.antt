pub mod Values
pub mod Layout
pub mod LayoutLaws
pub mod Lead
pub mod Pictures
