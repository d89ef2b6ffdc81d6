-- Laws that the proofs of this crate's functions share, and worked examples.
pub mod Blocks
pub mod Reading
pub mod Examples
pub mod Lows
pub mod Pictures
pub mod BytesLaws
pub mod ColumnsLaws
pub mod Digits
pub mod EachLaws
pub mod FormatLaws
pub mod NumberLaws
pub mod PictureLaws
pub mod RewrittenLaws
pub mod WorthLaws
pub mod WrittenLaws
